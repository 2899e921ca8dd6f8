-- The loop keeps that the rows after those it has had decide, with the count of the next row; past the last row no field is due.
use Rattle.std.proofs.Common.{drop, length, ◌+◌, ◌≡◌}
use Rattle.field_walk.specs.Walk.{all_had, rows_in}
use Rattle.field_walk.proofs.walk.FormRows.all_had.Given as goal

abbrev pub invariant-loop-row : goal.invariant-loop-row
invariant-loop-row l = all_had (drop l.from (rows_in l.self.form l.self.rows.now)) l.had ≡ all_had (drop (l.from + length l.yielded) (rows_in l.self.form l.self.rows.now)) l.count
