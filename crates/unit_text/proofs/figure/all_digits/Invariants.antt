-- The rest decides.
use Rattle.std.proofs.Common.{drop, ◌≡◌}
use Rattle.std.specs.Str.{all_ascii_digits}
use Rattle.unit_text.proofs.figure.all_digits.Given as goal

abbrev pub invariant-loop-byte : goal.invariant-loop-byte
invariant-loop-byte l = all_ascii_digits l.text ≡ all_ascii_digits (drop l.byte-index l.text)
