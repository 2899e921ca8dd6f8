-- The rest, written where it is, makes the whole.
use Rattle.text_output.proofs.Theorems.Pieces.{Writes}
use Rattle.text_shown.specs.Lines.{value_line}
use Rattle.text_shown.proofs.lines.put_round.Given as goal

abbrev pub invariant-loop-row : goal.invariant-loop-row
invariant-loop-row l = Writes (value_line l.kind l.field l.wide l.fields l.round) l.field.rows l.field.first l.fn.out l.at l.row l.out l.next
