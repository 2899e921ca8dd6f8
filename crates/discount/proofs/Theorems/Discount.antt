-- Laws of the discount factors: each is at most the one before, and F(0) at most.
use Rattle.std.specs.Prelude.{ℕ, zero, suc, ◌≤◌}
use Rattle.std.proofs.Common.{le_refl, arith}
use Rattle.std.proofs.Math.Nat.{div-le_of_le-mul}
use Rattle.discount.specs.DiscountLimits.{highest_discount}
use Rattle.discount.specs.Discount.{discount}

pub discount_falls : (b n : ℕ) → discount b (suc n) ≤ discount b n
unfolding discount
discount_falls b n = div-le_of_le-mul _ (omega arith)

pub discount_at_most : (b n : ℕ) → discount b n ≤ highest_discount
unfolding discount
discount_at_most b zero = le_refl _
discount_at_most b (suc n) = omega (arith, discount_falls b n, discount_at_most b n)
