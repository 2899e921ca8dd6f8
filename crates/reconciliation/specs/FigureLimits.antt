-- How high the figures of a reconciliation are, by the limits of what they come from.
use Rattle.std.specs.Prelude.{ℕ, ◌+◌, ◌*◌, ◌≤◌, ◌<◌, ◌≡◌, pos, nat_abs, ◌-ℤ◌, None, Some}
use Rattle.field_values.specs.Limits.{highest_amount}
use Rattle.revenue.specs.RevenueLimits.{highest_incremental_revenue}
use Rattle.capacity.specs.CapacityLimits.{highest_capacity_cost}
use Rattle.reconciliation.specs.declared.Reconciliation.{Reconciliation}
use Rattle.reconciliation.specs.Percent.{Percent}

-- IC: ME, CE, TW, HR and OL, with MC and CC2
abbrev pub highest_incremental_cost : ℕ
highest_incremental_cost = 5 * highest_amount + 2 * highest_capacity_cost

-- IC, and CC + IR, which percentages are divided by
abbrev pub highest_divisor : ℕ
highest_divisor = highest_incremental_cost + highest_incremental_revenue

-- a percentage is at most so many percent, up or down, rounded to the nearest as well as down
abbrev pub PercentWithin : ℕ → Percent → Type 0
PercentWithin limit (Some p) = (nat_abs p.rounded ≤ limit) × (nat_abs p.quotient ≤ limit)
PercentWithin limit None = Unit {0}

abbrev pub RemainderWithin : Percent → Type 0
RemainderWithin (Some p) = p.remainder < highest_divisor
RemainderWithin None = Unit {0}

-- the limits that a ledger needs, and that every figure fits 64 bits with a sign
pub record FiguresWithin (r : Reconciliation) : Type 0 where
  pub parts : r.ic ≡ r.me + r.mc + r.ce + r.cc2 + r.tw + r.hr + r.ol
  pub ic : r.ic ≤ highest_incremental_cost
  pub ir : r.ir ≤ highest_incremental_revenue
  pub x : r.x ≤ 2 * highest_amount
  pub cc : r.cc ≤ highest_incremental_cost
  pub borne : r.borne ≤ highest_incremental_cost + highest_amount
  pub entered : r.entered ≡ r.cc + r.borne
  pub net : pos r.cc -ℤ r.nc ≡ r.nic
  pub nic : nat_abs r.nic ≤ highest_incremental_revenue
  pub nc : nat_abs r.nc ≤ highest_incremental_revenue
  pub reliance : PercentWithin 100 r.reliance
  pub upfront : PercentWithin 100 r.upfront
  pub nc_ratio : PercentWithin (100 * highest_incremental_revenue) r.nc_ratio
  pub reliance_remainder : RemainderWithin r.reliance
  pub upfront_remainder : RemainderWithin r.upfront
  pub nc_ratio_remainder : RemainderWithin r.nc_ratio
