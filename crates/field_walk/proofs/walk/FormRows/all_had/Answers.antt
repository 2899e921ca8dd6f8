-- Each row that the iterator yields is the one at its place, and past the last there is none (row_turn, had_at, had_past).
use Rattle.std.proofs.Common.{le-ltb, lt-ltb, length, add_assoc}
use Rattle.std.proofs.lemmas.List.{length_push}
use Rattle.std.proofs.lemmas.Iterator.{YieldsList-from_slice}
use Rattle.std.proofs.lemmas.Iterator.Adapters.{YieldsList-from_skip}
use Rattle.std.proofs.lemmas.Iterator.Consumers.{YieldsList-end}
use Rattle.field_walk.proofs.Rows.{had_at, had_past, row_turn, rows_passed}
use Rattle.field_walk.proofs.walk.FormRows.all_had.Goals as goal

pub returns-then-count-least_in : goal.returns-then-count-least_in
returns-then-count-least_in c =
    let on = row_turn c.args.self.rows.now c.args.from (YieldsList-from_skip c.args.from (YieldsList-from_slice c.args.self.rows.now cc) cc) c.loop-row.yielded _ c.loop-row.yielded_by _ _ c.in-Some.row c.in-Some.is c.next.ensures.steps in
    rw (c.loop-row.invariant, had_at _ _ _ _ on.0, ← on.1, ← c.least_in.ensures, lt-ltb _ _ c.if-count-least_in.true)

pub loop-row-preserved : goal.loop-row-preserved
loop-row-preserved c =
    let on = row_turn c.args.self.rows.now c.args.from (YieldsList-from_skip c.args.from (YieldsList-from_slice c.args.self.rows.now cc) cc) c.loop-row.yielded _ c.loop-row.yielded_by _ _ c.in-Some.row c.in-Some.is c.next.ensures.steps in
    rw (c.loop-row.invariant, had_at _ _ _ _ on.0, ← on.1, ← c.least_in.ensures, le-ltb _ _ c.if-count-least_in.false, length_push, add_assoc)

pub returns : goal.returns
returns c =
    let end = YieldsList-end (YieldsList-from_skip c.args.from (YieldsList-from_slice c.args.self.rows.now cc) cc) c.loop-row.yielded _ c.loop-row.yielded_by _ _ c.in-None.is c.next.ensures.steps in
    rw (c.loop-row.invariant, had_past _ _ _ _ (rows_passed c.args.self.rows.now c.args.from (length c.loop-row.yielded) end.1))
