-- One piece more each time.
use Rattle.std.proofs.Common.{arith}
use Rattle.text_output.proofs.Theorems.Pieces.{writes_on, writes_room}
use Rattle.std.specs.Prelude.{◌+◌}
use Rattle.text_names.specs.Notes.{note_line}
use Rattle.text_names.proofs.notes.put_row_notes.Goals as goal

pub put_note_line-next-requires : goal.put_note_line-next-requires
put_note_line-next-requires c =
    let l = c.loop-row in
    let room = (writes_room (note_line c.args.kind) c.args.rows c.args.first c.args.out.now c.args.at l.row l.out l.next (c.args.first + l.row) (omega arith) (omega arith) (omega arith) (omega arith) l.invariant).0 in
    (omega arith, room)

pub loop-row-preserved : goal.loop-row-preserved
loop-row-preserved c =
    let l = c.loop-row in
    let room = (writes_room (note_line c.args.kind) c.args.rows c.args.first c.args.out.now c.args.at l.row l.out l.next (c.args.first + l.row) (omega arith) (omega arith) (omega arith) (omega arith) l.invariant).1 in
    writes_on (note_line c.args.kind) c.args.rows c.args.first c.args.out.now c.args.at l.row l.out l.next _ _ (c.args.first + l.row) (omega arith) (omega arith) room
    c.put_note_line-next.ensures.out_after c.put_note_line-next.ensures.place l.invariant
