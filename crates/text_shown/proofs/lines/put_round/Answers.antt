-- One piece more each time.
use Rattle.std.proofs.Common.{arith}
use Rattle.text_output.proofs.Theorems.Pieces.{writes_on, writes_room}
use Rattle.std.specs.Prelude.{◌+◌}
use Rattle.text_shown.specs.Lines.{value_line, round_lines}
use Rattle.text_shown.proofs.lines.put_round.Goals as goal

pub put_value_line-next-requires : goal.put_value_line-next-requires
unfolding round_lines
put_value_line-next-requires c =
    let l = c.loop-row in
    let room = (writes_room (value_line c.args.kind c.args.field c.args.wide c.args.fields.now c.args.round) c.args.field.rows c.args.field.first c.args.out.now c.args.at l.row l.out l.next (c.args.field.first + l.row) (omega arith) (omega arith) (omega arith) (omega arith) l.invariant).0 in
    (omega arith, omega arith, room)

pub loop-row-preserved : goal.loop-row-preserved
unfolding round_lines
loop-row-preserved c =
    let l = c.loop-row in
    let room = (writes_room (value_line c.args.kind c.args.field c.args.wide c.args.fields.now c.args.round) c.args.field.rows c.args.field.first c.args.out.now c.args.at l.row l.out l.next (c.args.field.first + l.row) (omega arith) (omega arith) (omega arith) (omega arith) l.invariant).1 in
    writes_on (value_line c.args.kind c.args.field c.args.wide c.args.fields.now c.args.round) c.args.field.rows c.args.field.first c.args.out.now c.args.at l.row l.out l.next _ _ (c.args.field.first + l.row) (omega arith) (omega arith) room
    c.put_value_line-next.ensures.out_after c.put_value_line-next.ensures.place l.invariant
