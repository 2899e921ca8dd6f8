-- Quotients and remainders in literals: percentages that add up to 101, halves and the places next to them below 0, divisors of 0 and 1, the lowest NC.
use Rattle.std.specs.Prelude.{ℕ, ◌≡◌, refl, ℤ, pos, negsuc, None}
use Rattle.reconciliation.specs.Reconciliation.{reconciliation_of}
use Rattle.reconciliation.specs.ExactPercent.{rounded_from}
use Rattle.reconciliation.specs.Cases.Reconciliation.{whole}
use Rattle.reconciliation.specs.Percent.{Percent}
use Rattle.reconciliation.specs.declared.Reconciliation.{Reconciliation}

-- ME, MC, CE and CC2, other amounts 0, and IR; a and the share
abbrev reconciled : (me mc ce cc2 ir a share : ℕ) → Reconciliation
reconciled me mc ce cc2 ir a share = reconciliation_of (record { me = me; mc = mc; ce = ce; cc2 = cc2; de = 0; tw = 0; hr = 0; ol = 0 }) ir a share

-- NC, and the three percentages
abbrev Told : Reconciliation → ℤ → (reliance upfront ratio : Percent) → Type 0
Told r nc reliance upfront ratio = (r.nc ≡ nc) × (r.reliance ≡ reliance) × (r.upfront ≡ upfront) × (r.nc_ratio ≡ ratio)

pub record ExactPercentCases : Type 0 where
  -- 51 and 50 percent, of which 50 and 49 are whole: the remainders make up the last one
  pub sum_of_101 : Told (reconciled 101 0 0 0 99 1 0) (pos 99) (whole (pos 100) (pos 100) 0) (whole (pos 51) (pos 50) 100) (whole (pos 50) (pos 49) 100)
  -- minus a half, and next to it: capacity of 1 cent that isn't charged
  pub minus_half : Told (reconciled 200 1 0 0 0 0 6500) (negsuc 0) (whole (pos 100) (pos 99) 101) (whole (pos 100) (pos 100) 0) (whole (negsuc 0) (negsuc 0) 100)
  pub below_half : Told (reconciled 201 1 0 0 0 0 6500) (negsuc 0) (whole (pos 100) (pos 99) 102) (whole (pos 100) (pos 100) 0) (whole (pos 0) (negsuc 0) 101)
  -- minus one and a half
  pub minus_half_more : Told (reconciled 200 3 0 0 0 0 6500) (negsuc 2) (whole (pos 99) (pos 98) 106) (whole (pos 100) (pos 100) 0) (whole (negsuc 1) (negsuc 1) 100)
  -- nothing charged and no revenue; nothing at all
  pub none_of_two : Told (reconciled 0 108000 0 0 0 0 6500) (negsuc 107999) (whole (pos 0) (pos 0) 0) None None
  pub none_of_three : Told (reconciled 0 0 0 0 0 0 6500) (pos 0) None None None
  -- a divisor of 1
  pub divisor_1 : Told (reconciled 0 108000 0 0 1 0 6500) (negsuc 107998) (whole (pos 0) (pos 0) 0) (whole (pos 0) (pos 0) 0) (whole (negsuc 10799899) (negsuc 10799899) 0)
  -- the lowest NC, by a divisor of 1 and by one that leaves a remainder
  pub lowest : Told (reconciled 0 500000000000 1 500000000000 0 0 6500) (negsuc 999999999999) (whole (pos 0) (pos 0) 100) (whole (pos 100) (pos 100) 0)
      (whole (negsuc 99999999999999) (negsuc 99999999999999) 0)
  pub lowest_in_parts : Told (reconciled 0 500000000000 10000001 500000000000 0 0 6500) (negsuc 999999999999) (whole (pos 0) (pos 0) 1000000100)
      (whole (pos 100) (pos 100) 0) (whole (negsuc 9999998) (negsuc 9999999) 10000000)

pub exact_percent_cases : ExactPercentCases
exact_percent_cases =
    record {
      sum_of_101 = (refl, refl, refl, refl);
      minus_half = (refl, refl, refl, refl);
      below_half = (refl, refl, refl, refl);
      minus_half_more = (refl, refl, refl, refl);
      none_of_two = (refl, refl, refl, refl);
      none_of_three = (refl, refl, refl, refl);
      divisor_1 = (refl, refl, refl, refl);
      lowest = (refl, refl, refl, refl);
      lowest_in_parts = (refl, refl, refl, refl);
    }

-- quotients with remainders below, at and above half a divisor of 10, and of 5
pub rounded_cases :
    (rounded_from (pos 7) 4 10 ≡ pos 7)
    × (rounded_from (pos 7) 5 10 ≡ pos 8)
    × (rounded_from (pos 0) 5 10 ≡ pos 1)
    × (rounded_from (pos 7) 6 10 ≡ pos 8)
    × (rounded_from (negsuc 6) 4 10 ≡ negsuc 6)
    × (rounded_from (negsuc 6) 5 10 ≡ negsuc 6)
    × (rounded_from (negsuc 0) 5 10 ≡ negsuc 0)
    × (rounded_from (negsuc 6) 6 10 ≡ negsuc 5)
    × (rounded_from (pos 7) 2 5 ≡ pos 7)
    × (rounded_from (pos 7) 3 5 ≡ pos 8)
    × (rounded_from (pos 7) 0 5 ≡ pos 7)
rounded_cases = (refl, refl, refl, refl, refl, refl, refl, refl, refl, refl, refl)
