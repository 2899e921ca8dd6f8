-- What an accepted book and request give of the costs, and numerators whose percentage fits 64 bits.
use Rattle.std.specs.Prelude.{ℕ, ◌≤◌}
use Rattle.field_values.specs.Limits.{highest_amount}
use Rattle.capacity.specs.CapacityLimits.{highest_capacity_cost}
use Rattle.reconciliation.specs.declared.Costs.{Costs}

-- 200 times an amount below it, and another one, fit 64 bits
abbrev pub percent_below : ℕ
percent_below = 10000000000000000

-- what an accepted book and request give of the costs
pub record CostsWithin (costs : Costs) : Type 0 where
  pub me : costs.me ≤ highest_amount
  pub mc : costs.mc ≤ highest_capacity_cost
  pub ce : costs.ce ≤ highest_amount
  pub cc2 : costs.cc2 ≤ highest_capacity_cost
  pub de : costs.de ≤ highest_amount
  pub tw : costs.tw ≤ highest_amount
  pub hr : costs.hr ≤ highest_amount
  pub ol : costs.ol ≤ highest_amount
