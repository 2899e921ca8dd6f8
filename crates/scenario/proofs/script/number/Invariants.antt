-- The number so far has at most nine digits.
use Rattle.std.proofs.Common.{◌≤◌}
use Rattle.scenario.proofs.script.number.Given as goal

abbrev pub invariant-loop-byte : goal.invariant-loop-byte
invariant-loop-byte l = l.n ≤ 999999999
