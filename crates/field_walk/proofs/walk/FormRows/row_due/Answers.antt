-- Each row that the iterator yields, with its number, is the one at its place, and past the last there is none (numbered_turn, due_at, due_past).
use Rattle.std.proofs.Common.{eq-eqb, le-ltb, lt-ltb, ne_eqb, length, add_assoc}
use Rattle.std.proofs.lemmas.List.{length_push}
use Rattle.std.proofs.lemmas.Iterator.{YieldsList-from_slice}
use Rattle.std.proofs.lemmas.Iterator.Adapters.{YieldsList-from_skip}
use Rattle.std.proofs.lemmas.Iterator.Consumers.{YieldsList-from_enumerate, YieldsList-end}
use Rattle.field_walk.proofs.Rows.{due_at, due_past, numbered_turn, numbered_passed}
use Rattle.field_walk.proofs.walk.FormRows.row_due.Goals as goal

pub returns-then-count-most_in-clause-value : goal.returns-then-count-most_in-clause-value
returns-then-count-most_in-clause-value c =
    let on = numbered_turn c.args.self.rows.now c.args.from (YieldsList-from_skip c.args.from (YieldsList-from_enumerate (YieldsList-from_slice c.args.self.rows.now cc) cc) cc) c.loop-number.yielded _ c.loop-number.yielded_by _ _ (c.in-Some.number, c.in-Some.row) c.in-Some.is c.next.ensures.steps in
    rw (c.loop-number.invariant, due_at _ _ _ _ on.0 _, ← on.2, on.1, ← c.most_in.ensures, ← c.from.ensures, eq-eqb _ _ c.if-row-from.true, lt-ltb _ _ c.if-count-most_in.true)

pub returns-then-row-from-clause-value : goal.returns-then-row-from-clause-value
returns-then-row-from-clause-value c =
    let on = numbered_turn c.args.self.rows.now c.args.from (YieldsList-from_skip c.args.from (YieldsList-from_enumerate (YieldsList-from_slice c.args.self.rows.now cc) cc) cc) c.loop-number.yielded _ c.loop-number.yielded_by _ _ (c.in-Some.number, c.in-Some.row) c.in-Some.is c.next.ensures.steps in
    rw (c.loop-number.invariant, due_at _ _ _ _ on.0 _, ← on.2, ← c.most_in.ensures, ← c.from.ensures, eq-eqb _ _ c.if-row-from.true, le-ltb _ _ c.if-count-most_in.false)

pub returns-then-count-least_in-clause-value : goal.returns-then-count-least_in-clause-value
returns-then-count-least_in-clause-value c =
    let on = numbered_turn c.args.self.rows.now c.args.from (YieldsList-from_skip c.args.from (YieldsList-from_enumerate (YieldsList-from_slice c.args.self.rows.now cc) cc) cc) c.loop-number.yielded _ c.loop-number.yielded_by _ _ (c.in-Some.number, c.in-Some.row) c.in-Some.is c.next.ensures.steps in
    rw (c.loop-number.invariant, due_at _ _ _ _ on.0 _, ← on.2, ← c.least_in.ensures, ← c.from.ensures, ne_eqb _ _ c.if-row-from.false, lt-ltb _ _ c.if-count-least_in.true)

pub loop-number-preserved : goal.loop-number-preserved
loop-number-preserved c =
    let on = numbered_turn c.args.self.rows.now c.args.from (YieldsList-from_skip c.args.from (YieldsList-from_enumerate (YieldsList-from_slice c.args.self.rows.now cc) cc) cc) c.loop-number.yielded _ c.loop-number.yielded_by _ _ (c.in-Some.number, c.in-Some.row) c.in-Some.is c.next.ensures.steps in
    rw (c.loop-number.invariant, due_at _ _ _ _ on.0 _, ← on.2, ← c.least_in.ensures, ← c.from.ensures, ne_eqb _ _ c.if-row-from.false, le-ltb _ _ c.if-count-least_in.false, length_push, add_assoc)

pub returns-clause-value : goal.returns-clause-value
returns-clause-value c =
    let end = YieldsList-end (YieldsList-from_skip c.args.from (YieldsList-from_enumerate (YieldsList-from_slice c.args.self.rows.now cc) cc) cc) c.loop-number.yielded _ c.loop-number.yielded_by _ _ c.in-None.is c.next.ensures.steps in
    rw (c.loop-number.invariant, due_past _ _ _ _ _ (numbered_passed c.args.self.rows.now c.args.from (length c.loop-number.yielded) end.1))
