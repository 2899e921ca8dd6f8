-- The rest, written where it is, makes the whole.
use Rattle.text_output.proofs.Theorems.Pieces.{Writes}
use Rattle.text_shown.specs.Lines.{field_text}
use Rattle.text_shown.proofs.lines.put_fields.Given as goal

abbrev pub invariant-loop-number : goal.invariant-loop-number
invariant-loop-number l = Writes (field_text l.kind l.wide l.fields) l.count 0 l.fn.out l.at l.number l.out l.next
