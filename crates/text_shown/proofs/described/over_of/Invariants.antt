-- The row is of none of the fields so far.
use Rattle.std.proofs.Common.{drop, ◌≡◌}
use Rattle.text_names.specs.Table.{fields}
use Rattle.text_shown.specs.Described.{over_in}
use Rattle.text_shown.proofs.described.over_of.Given as goal

abbrev pub invariant-loop-place : goal.invariant-loop-place
invariant-loop-place l = over_in (fields l.kind) l.number ≡ over_in (drop l.place (fields l.kind)) l.number
