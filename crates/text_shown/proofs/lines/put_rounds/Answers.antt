-- One piece more each time.
use Rattle.std.proofs.Common.{arith}
use Rattle.text_output.proofs.Theorems.Pieces.{writes_on, writes_room}
use Rattle.text_shown.specs.Lines.{round_lines}
use Rattle.text_shown.proofs.lines.put_rounds.Goals as goal

pub put_round-next-requires : goal.put_round-next-requires
put_round-next-requires c =
    let l = c.loop-round in
    let room = (writes_room (round_lines c.args.kind c.args.field c.args.wide c.args.fields.now) c.args.count 0 c.args.out.now c.args.at l.round l.out l.next (l.round) (omega arith) (omega arith) (omega arith) (omega arith) l.invariant).0 in
    (omega arith, omega arith, omega arith, room)

pub loop-round-preserved : goal.loop-round-preserved
loop-round-preserved c =
    let l = c.loop-round in
    let room = (writes_room (round_lines c.args.kind c.args.field c.args.wide c.args.fields.now) c.args.count 0 c.args.out.now c.args.at l.round l.out l.next (l.round) (omega arith) (omega arith) (omega arith) (omega arith) l.invariant).1 in
    writes_on (round_lines c.args.kind c.args.field c.args.wide c.args.fields.now) c.args.count 0 c.args.out.now c.args.at l.round l.out l.next _ _ (l.round) (omega arith) (omega arith) room
    c.put_round-next.ensures.out_after c.put_round-next.ensures.place l.invariant
