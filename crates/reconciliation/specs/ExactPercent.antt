-- Document 02, E10: "100 × numerator = quotient × divisor + remainder, remainder from 0 to divisor − 1, also where NC is negative." What that says of a
-- percentage, in integers, and how the rounded percentage follows from quotient and remainder.
use Rattle.std.specs.Prelude.{ℕ, ◌+◌, ◌*◌, ◌<◌, ◌≡◌, Bool, true, false, ◌&&◌, ◌||◌, ℤ, pos, negsuc, ◌+ℤ◌, ◌*ℤ◌, None, Some, if◌then◌else◌, ◌==◌, nat_lt}
use Rattle.reconciliation.specs.Percent.{Percent}
use Rattle.reconciliation.specs.declared.Reconciliation.{Reconciliation}

-- the quotient is 0 or more
abbrev pub not_negative : ℤ → Bool
not_negative (pos n) = true
not_negative (negsuc n) = false

-- quotient + 1 where 2 × remainder is above the divisor, or is the divisor and the quotient 0 or more; otherwise the quotient
abbrev pub rounded_from : ℤ → ℕ → ℕ → ℤ
rounded_from quotient remainder divisor =
    if nat_lt divisor (2 * remainder) || (2 * remainder == divisor && not_negative quotient) then quotient +ℤ pos 1 else quotient

-- quotient and remainder of 100 times a numerator by a divisor
pub record Divided (numerator : ℤ) (divisor : ℕ) (quotient : ℤ) (remainder : ℕ) : Type 0 where
  pub equation : pos 100 *ℤ numerator ≡ quotient *ℤ pos divisor +ℤ pos remainder
  pub range : remainder < divisor

-- nothing exactly where the divisor is 0
abbrev pub Exact : ℤ → ℕ → Percent → Type 0
Exact numerator divisor (Some p) = Divided numerator divisor p.quotient p.remainder × (p.rounded ≡ rounded_from p.quotient p.remainder divisor)
Exact numerator divisor None = divisor ≡ 0

-- "CC/IC, CC/(CC+IR), NC/(CC+IR)"
pub record ExactPercentages (r : Reconciliation) : Type 0 where
  pub reliance : Exact (pos r.cc) r.ic r.reliance
  pub upfront : Exact (pos r.cc) (r.cc + r.ir) r.upfront
  pub nc_ratio : Exact r.nc (r.cc + r.ir) r.nc_ratio
