-- The sum, going on over the bytes from this one on, comes to the check of all.
use Rattle.std.proofs.Common.{drop, ◌<◌, ◌≡◌}
use Rattle.numbers.specs.Check.{check_from}
use Rattle.numbers.proofs.check.check_each.Given as goal

abbrev pub invariant-loop-byte : goal.invariant-loop-byte
invariant-loop-byte l = (l.sum < 65521) × (check_from l.h l.bytes ≡ check_from l.sum (drop l.byte-index l.bytes))
