-- The loop keeps that the array has the factors of the years until n.
use Rattle.std.proofs.Common.{length, ◌≡◌}
use Rattle.discount.specs.DiscountLimits.{FactorsUntil}
use Rattle.discount.proofs.factors_until.Given as goal

abbrev pub invariant-loop-n : goal.invariant-loop-n
invariant-loop-n l = (length l.factors ≡ 31) × FactorsUntil l.b l.n l.factors
