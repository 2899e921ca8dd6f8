-- The rest decides.
use Rattle.std.proofs.Common.{drop, false, ◌≡◌}
use Rattle.text_lines.specs.Columns.{closes_from}
use Rattle.text_lines.proofs.columns.quotes_close.Given as goal

abbrev pub invariant-loop-byte : goal.invariant-loop-byte
invariant-loop-byte l = closes_from false l.line ≡ closes_from l.quoted (drop l.byte-index l.line)
