-- Laws of the revenue: no figure falls where another rises, and what each is at most.
use Rattle.std.specs.Prelude.{ℕ, zero, suc, ◌*◌, ◌≤◌, Bool, true, false, cond, eqb}
use Rattle.std.proofs.Common.{le_refl, add-le-add, mul-le-mul, arith}
use Rattle.std.proofs.Math.Nat.{div-le_of_le-mul}
use Rattle.field_values.specs.declared.factors.Factors.{Factors}
use Rattle.field_values.specs.FactorLimits.{FactorsWithin}
use Rattle.field_values.specs.Limits.{special_pricing, highest_factor}
use Rattle.discount.specs.DiscountLimits.{highest_discount}
use Rattle.discount.proofs.Theorems.Discount.{discount_at_most}
use Rattle.revenue.specs.RevenueLimits.{highest_year_revenue, highest_incremental_revenue}
use Rattle.revenue.specs.StreamLimits.{highest_opex_factor, longest_life, StreamWithin}
use Rattle.revenue.specs.Revenue.{opex_factor, transmission_opex_factor, distribution_opex_factor, factor_of, scaled, year_revenue, stream_year, incremental_revenue}
use Rattle.revenue.specs.declared.Stream.{Stream}

pub opex_factor_at_most : (opex revenue : ℕ) → opex_factor opex revenue ≤ highest_opex_factor
opex_factor_at_most opex revenue = div-le_of_le-mul revenue (omega arith)

pub distribution_opex_factor_at_most : (class opex revenue : ℕ) → distribution_opex_factor class opex revenue ≤ highest_opex_factor
distribution_opex_factor_at_most class opex revenue = by (eqb class special_pricing)
  where
    by : (special : Bool) → cond special transmission_opex_factor (opex_factor opex revenue) ≤ highest_opex_factor
    by true = le_refl _
    by false = opex_factor_at_most opex revenue

pub factor_at_most : {list : Factors} (n : ℕ) → FactorsWithin list → factor_of list n ≤ highest_factor
factor_at_most n within = within.each _

pub scaled_monotone : {x y a b : ℕ} → x ≤ y → a ≤ b → scaled x a ≤ scaled y b
scaled_monotone p q = omega (arith, mul-le-mul p q)

pub year_revenue_monotone_in_all : {r r' o o' p p' v v' t t' f f' : ℕ} → r ≤ r' → o ≤ o' → p ≤ p' → v ≤ v' → t ≤ t' → f ≤ f' →
    year_revenue r o p v t f ≤ year_revenue r' o' p' v' t' f'
year_revenue_monotone_in_all hr ho hp hv ht hf =
    omega (arith, mul-le-mul (scaled_monotone (scaled_monotone (scaled_monotone (scaled_monotone hr ho) hp) hv) ht) hf)

pub year_revenue_monotone : {r r' : ℕ} (o p v t f : ℕ) → r ≤ r' → year_revenue r o p v t f ≤ year_revenue r' o p v t f
year_revenue_monotone o p v t f h = year_revenue_monotone_in_all h (le_refl o) (le_refl p) (le_refl v) (le_refl t) (le_refl f)

-- the stream with another year-one figure
abbrev pub with_revenue : ℕ → Stream → Stream
with_revenue r stream =
    record {
      revenue = r;
      opex_factor = stream.opex_factor;
      part_year = stream.part_year;
      revenue_factors = stream.revenue_factors;
      tariff_factors = stream.tariff_factors;
    }

-- in either stream's revenue, or in both
pub incremental_revenue_monotone : {d d' t t' : ℕ} (distribution transmission : Stream) (b n : ℕ) → d ≤ d' → t ≤ t' →
    incremental_revenue (with_revenue d distribution) (with_revenue t transmission) b n ≤
    incremental_revenue (with_revenue d' distribution) (with_revenue t' transmission) b n
unfolding incremental_revenue
incremental_revenue_monotone distribution transmission b zero p q = le_refl _
incremental_revenue_monotone distribution transmission b (suc n) p q =
    add-le-add (incremental_revenue_monotone distribution transmission b n p q)
    (add-le-add (year_revenue_monotone _ _ _ _ _ p) (year_revenue_monotone _ _ _ _ _ q))

-- the greatest figures: year_revenue highest_revenue highest_opex_factor highest_factor highest_factor highest_factor highest_discount
pub stream_year_at_most : {stream : Stream} (n : ℕ) {f : ℕ} → StreamWithin stream → f ≤ highest_discount → stream_year stream n f ≤ highest_year_revenue
stream_year_at_most n within h =
    year_revenue_monotone_in_all within.revenue within.opex_factor (factor_at_most n within.part_year)
    (factor_at_most n within.revenue_factors) (factor_at_most n within.tariff_factors) h

pub years_at_most : {distribution transmission : Stream} (b n : ℕ) → StreamWithin distribution → StreamWithin transmission →
    incremental_revenue distribution transmission b n ≤ 2 * highest_year_revenue * n
unfolding incremental_revenue
years_at_most b zero d t = le_refl _
years_at_most b (suc n) d t =
    omega (arith, years_at_most b n d t, stream_year_at_most n d (discount_at_most b n), stream_year_at_most n t (discount_at_most b n))

-- the 31 years of the longer life
pub incremental_revenue_bounded : {distribution transmission : Stream} (b : ℕ) {life : ℕ} → StreamWithin distribution → StreamWithin transmission → life ≤ longest_life →
    incremental_revenue distribution transmission b (suc life) ≤ highest_incremental_revenue
incremental_revenue_bounded b {life} d t h = omega (arith, years_at_most b (suc life) d t)
