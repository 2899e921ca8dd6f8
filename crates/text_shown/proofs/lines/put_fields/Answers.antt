-- One piece more each time.
use Rattle.std.proofs.Common.{arith}
use Rattle.text_output.proofs.Theorems.Pieces.{writes_on, writes_room}
use Rattle.text_shown.specs.Lines.{field_text}
use Rattle.text_shown.proofs.lines.put_fields.Goals as goal

pub put_field-next-requires : goal.put_field-next-requires
put_field-next-requires c =
    let l = c.loop-number in
    let room = (writes_room (field_text c.args.kind c.args.wide c.args.fields.now) c.args.count 0 c.args.out.now c.args.at l.number l.out l.next (l.number) (omega arith) (omega arith) (omega arith) (omega arith) l.invariant).0 in
    room

pub loop-number-preserved : goal.loop-number-preserved
loop-number-preserved c =
    let l = c.loop-number in
    let room = (writes_room (field_text c.args.kind c.args.wide c.args.fields.now) c.args.count 0 c.args.out.now c.args.at l.number l.out l.next (l.number) (omega arith) (omega arith) (omega arith) (omega arith) l.invariant).1 in
    writes_on (field_text c.args.kind c.args.wide c.args.fields.now) c.args.count 0 c.args.out.now c.args.at l.number l.out l.next _ _ (l.number) (omega arith) (omega arith) room
    c.put_field-next.ensures.out_after c.put_field-next.ensures.place l.invariant
