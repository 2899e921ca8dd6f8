-- Demand 2: "The discount factor of year n is never above its exact value, and for n of 1 or more it is less than n hundred-millionths below it."
-- The exact value, in hundred-millionths, is 100,000,000 × 10,000ⁿ / (10,000 + b)ⁿ: both sides are multiplied by (10,000 + b)ⁿ.
use Rattle.std.specs.Prelude.{ℕ, zero, suc, ◌+◌, ◌*◌, ◌^◌, ◌<◌, ◌≤◌, ◌≡◌}
use Rattle.std.proofs.Common.{le_of_lt, mul-le-mul_right, mul-lt-mul_of_pos_right, div-mul-le_self, pow-suc, arith}
use Rattle.std.proofs.Math.Nat.{lt-div-mul-add, one-le-pow, pow-zero}
use Rattle.discount.specs.Discount.{discount}

-- One more year: f is F(n), g is F(n + 1), d is 10,000 + b, p and q are the powers of d and 10,000.
above_next : (f g d p q : ℕ) → g * d ≤ f * 10000 → f * p ≤ 100000000 * q → g * (p * d) ≤ 100000000 * (q * 10000)
above_next f g d p q rounded before = omega (arith, mul-le-mul_right p rounded)

below_next : (f g d p q n : ℕ) → f * 10000 < g * d + d → 10000 ≤ d → 0 < p → 100000000 * q ≤ (f + n) * p →
    100000000 * (q * 10000) < (g + suc n) * (p * d)
below_next f g d p q n rounded least positive before =
    omega (arith, mul-lt-mul_of_pos_right rounded positive, mul-le-mul_right (n * p) least)

never_above : (b n : ℕ) → discount b n * (10000 + b) ^ n ≤ 100000000 * 10000 ^ n
unfolding discount
never_above b = each
  where
    each : (n : ℕ) → discount b n * (10000 + b) ^ n ≤ 100000000 * 10000 ^ n
    each zero = rw pow-zero (omega arith)
    each (suc n) = rw (pow-suc (10000 + b) n, pow-suc 10000 n) (above_next (discount b n) _ _ _ _ (div-mul-le_self _ _) (each n))

below_after : (b n : ℕ) → 100000000 * 10000 ^ n ≤ (discount b n + n) * (10000 + b) ^ n →
    100000000 * 10000 ^ suc n < (discount b (suc n) + suc n) * (10000 + b) ^ suc n
unfolding discount
below_after b n before =
    rw (pow-suc (10000 + b) n, pow-suc 10000 n)
    (below_next (discount b n) _ _ _ _ n (lt-div-mul-add (omega arith)) (omega arith) (one-le-pow n _ (omega arith)) before)

-- at year 0 the two are the same
at_most_below : (b n : ℕ) → 100000000 * 10000 ^ n ≤ (discount b n + n) * (10000 + b) ^ n
unfolding discount
at_most_below b = each
  where
    each : (n : ℕ) → 100000000 * 10000 ^ n ≤ (discount b n + n) * (10000 + b) ^ n
    each zero = rw pow-zero (omega arith)
    each (suc n) = le_of_lt (below_after b n (each n))

pub discount_bounds : (b n : ℕ) →
    (discount b n * (10000 + b) ^ n ≤ 100000000 * 10000 ^ n) × (1 ≤ n → 100000000 * 10000 ^ n < (discount b n + n) * (10000 + b) ^ n)
discount_bounds b zero = (never_above b zero, λ h. omega arith)
discount_bounds b (suc n) = (never_above b (suc n), λ h. below_after b n (at_most_below b n))

pub discount_exact_at_0 : (b : ℕ) → discount b 0 * (10000 + b) ^ 0 ≡ 100000000 * 10000 ^ 0
unfolding discount
discount_exact_at_0 b = rw pow-zero
