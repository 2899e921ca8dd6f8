-- The discount factors of the years until the last, and the revenue of so many years.
use Rattle.std.specs.Prelude.{ℕ, ◌+◌, ◌<◌, ◌≤◌, ◌≡◌, List, suc, length, take, get_or}
use Rattle.std.proofs.Common.{arith, add-one, refl}
use Rattle.std.proofs.lemmas.List.{get_or-take, length-take}
use Rattle.discount.specs.Discount.{discount}
use Rattle.discount.specs.DiscountLimits.{FactorsUntil, highest_discount}
use Rattle.discount.proofs.Theorems.Discount.{discount_at_most}
use Rattle.revenue.specs.Revenue.{stream_year, incremental_revenue}
use Rattle.revenue.specs.declared.Stream.{Stream}

pub record YearFactor (b life n factor : ℕ) : Type 0 where
  pub in_life : n ≤ life
  pub is : factor ≡ discount b n
  pub within : factor ≤ highest_discount

pub year_factor : {b life : ℕ} {factors : List ℕ} → FactorsUntil b life factors → (n : ℕ) → n < length (take (life + 1) factors) →
    YearFactor b life n (get_or (take (life + 1) factors) n 0)
year_factor {b} {life} {factors} until n h =
    let last : n ≤ life = omega (arith, length-take (life + 1) factors) in
    let same : get_or (take (life + 1) factors) n 0 ≡ discount b n = rw (get_or-take (life + 1) factors n 0 (omega arith)) (until.each n last) in
    record { in_life = last; is = same; within = rw same (discount_at_most b n) }

-- the revenue of no year, of one more, and of the whole life once no year is left
pub no_years : (distribution transmission : Stream) (b : ℕ) → incremental_revenue distribution transmission b 0 ≡ 0
unfolding incremental_revenue
no_years distribution transmission b = refl

pub one_more_year : (distribution transmission : Stream) (b n : ℕ) →
    incremental_revenue distribution transmission b (n + 1) ≡
    incremental_revenue distribution transmission b n + (stream_year distribution n (discount b n) + stream_year transmission n (discount b n))
unfolding incremental_revenue
one_more_year distribution transmission b n = rw add-one

pub last_year : (distribution transmission : Stream) (b life n sum : ℕ) (factors : List ℕ) → sum ≡ incremental_revenue distribution transmission b n →
    n ≡ length (take (life + 1) factors) → life + 1 ≤ length factors → sum ≡ incremental_revenue distribution transmission b (suc life)
last_year distribution transmission b life n sum factors so_far none_left long =
    let last : n ≡ suc life = omega (arith, length-take (life + 1) factors) in
    rw last at so_far

-- what the loop over the years needs
pub ruleset years = (year_factor, no_years, one_more_year, last_year)
