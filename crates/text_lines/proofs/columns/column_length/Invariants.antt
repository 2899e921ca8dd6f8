-- No separator so far stands outside quotes.
use Rattle.std.proofs.Common.{drop, ◌+◌, ◌≡◌}
use Rattle.text_lines.specs.Columns.{column_from, column_length}
use Rattle.text_lines.proofs.columns.column_length.Given as goal

abbrev pub invariant-loop-place : goal.invariant-loop-place
invariant-loop-place l = l.place + column_from l.separator l.quoted (drop l.place l.line) ≡ column_length l.separator l.line
