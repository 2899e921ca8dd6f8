-- The rest, written where it is, makes the whole.
use Rattle.text_output.proofs.Theorems.Pieces.{Writes}
use Rattle.text_shown.specs.Lines.{round_lines}
use Rattle.text_shown.proofs.lines.put_rounds.Given as goal

abbrev pub invariant-loop-round : goal.invariant-loop-round
invariant-loop-round l = Writes (round_lines l.kind l.field l.wide l.fields) l.count 0 l.fn.out l.at l.round l.out l.next
