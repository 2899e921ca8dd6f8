-- The loop keeps its offset within the value, and that the limits from its own on, all narrow, decide for the bytes from there on.
use Rattle.std.proofs.Common.{drop, length, true, ◌+◌, ◌≡◌, ◌≤◌}
use Rattle.field_values.specs.Judged.{judge_numbers}
use Rattle.field_values.specs.Narrow.{narrow}
use Rattle.field_values.proofs.judged.judge_numbers.Given as goal

abbrev pub invariant-loop-limit : goal.invariant-loop-limit
invariant-loop-limit l =
    (l.offset ≤ length l.value) × (narrow (drop l.limit-index l.limits) ≡ true)
    × (judge_numbers l.limits l.at l.value ≡ judge_numbers (drop l.limit-index l.limits) (l.at + l.offset) (drop l.offset l.value))
