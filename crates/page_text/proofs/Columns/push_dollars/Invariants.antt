-- The loop keeps that the text still to come, before what is written, is the definition's, with fewer commas; below 1,000 the first group is all of it.
use Rattle.std.proofs.Common.{suc, ℕ, ◌*◌, ◌+◌, ◌<◌, ◌^◌, ◌≡◌, ◌≤◌, length}
use Rattle.page_text.specs.Page.{dollars_text}
use Rattle.page_text.proofs.Columns.push_dollars.Given as goal

abbrev pub invariant-loop-thousands : goal.invariant-loop-thousands
invariant-loop-thousands l =
    (commas : ℕ) ×
    (l.thousands < 1000 ^ suc commas) ×
    (dollars_text 5 l.initial.thousands l.initial.self ≡ dollars_text commas l.thousands l.self) ×
    (4 * commas + length l.self ≤ length l.initial.self + 20)

abbrev pub decreases-loop-thousands : goal.decreases-loop-thousands
decreases-loop-thousands l = l.thousands
