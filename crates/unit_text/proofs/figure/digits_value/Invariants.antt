-- The number so far and the rest come to the whole, as far as that is at most one past all.
use Rattle.std.proofs.Common.{drop, min, ◌≡◌, ◌≤◌}
use Rattle.unit_text.specs.Figure.{digits_value, value_after, past_all}
use Rattle.unit_text.proofs.figure.digits_value.Given as goal

abbrev pub invariant-loop-byte : goal.invariant-loop-byte
invariant-loop-byte l = (l.n ≤ past_all) × (min (digits_value l.text) past_all ≡ min (value_after l.n (drop l.byte-index l.text)) past_all)
