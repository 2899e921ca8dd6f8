-- The rest, written where it is, makes the whole.
use Rattle.text_output.proofs.Theorems.Pieces.{Writes}
use Rattle.text_names.specs.Notes.{note_line}
use Rattle.text_names.proofs.notes.put_row_notes.Given as goal

abbrev pub invariant-loop-row : goal.invariant-loop-row
invariant-loop-row l = Writes (note_line l.kind) l.rows l.first l.fn.out l.at l.row l.out l.next
