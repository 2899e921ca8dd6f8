-- The loop keeps that the walk of the rest decides that of the file; a field ends within the rest, so each rest is shorter.
use Rattle.std.proofs.Common.{length}
use Rattle.field_walk.specs.Walk.{rows_in}
use Rattle.field_walk.proofs.Walking.{WalkSoFar}
use Rattle.field_walk.proofs.walk.FormRows.walk_by.Given as goal

abbrev pub invariant-loop-due : goal.invariant-loop-due
invariant-loop-due l = WalkSoFar (rows_in l.self.form l.self.rows.now) l.fields l.rest l.at l.row l.count

abbrev pub decreases-loop-due : goal.decreases-loop-due
decreases-loop-due l = length l.rest
