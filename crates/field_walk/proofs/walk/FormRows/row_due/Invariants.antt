-- The loop keeps that the rows after those it has had decide, with the count of the next row; the tests on a row are the definition's.
use Rattle.std.proofs.Common.{drop, length, ◌+◌, ◌≡◌}
use Rattle.field_walk.specs.Walk.{due_from, rows_in}
use Rattle.field_walk.proofs.walk.FormRows.row_due.Given as goal

abbrev pub invariant-loop-number : goal.invariant-loop-number
invariant-loop-number l =
    due_from (drop l.from (rows_in l.self.form l.self.rows.now)) l.from l.had l.tag ≡
    due_from (drop (l.from + length l.yielded) (rows_in l.self.form l.self.rows.now)) (l.from + length l.yielded) l.count l.tag
