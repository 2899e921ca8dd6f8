-- What capacity costs at most, at the limits of rates and demands.
use Rattle.std.specs.Prelude.{ℕ, ◌*◌, ◌≤◌, Bool, true, false, cond, List, eqb}
use Rattle.std.proofs.Common.{zero-le, mul-le-mul, arith}
use Rattle.field_values.specs.Limits.{highest_rate, highest_demand}
use Rattle.capacity.specs.Capacity.{mode_at, tier_cost, cost_at, capacity_cost}
use Rattle.capacity.specs.CapacityLimits.{highest_tier_cost, highest_capacity_cost}
use Rattle.capacity.specs.TierLimits.{TiersWithin, DemandsWithin}
use Rattle.capacity.specs.declared.Tiers.{Tiers}

pub cond_within : (test : Bool) {a b limit : ℕ} → a ≤ limit → b ≤ limit → cond test a b ≤ limit
cond_within true h k = h
cond_within false h k = k

pub tier_cost_at_most : (mode : ℕ) {rate demand : ℕ} → rate ≤ highest_rate → demand ≤ highest_demand → tier_cost mode rate demand ≤ highest_tier_cost
tier_cost_at_most mode {rate} {demand} h k =
    let product : rate * demand ≤ highest_rate * highest_demand = mul-le-mul h k in
    cond_within (eqb mode 1) zero-le (omega arith)

module _ (tiers : Tiers) (demands : List ℕ) (rates_within : TiersWithin tiers) (demands_within : DemandsWithin demands) where
  pub cost_at_most : (tier : ℕ) → cost_at tiers demands tier ≤ highest_tier_cost
  cost_at_most tier =
      tier_cost_at_most (mode_at tiers tier)
      (cond_within (eqb (mode_at tiers tier) 2) (rates_within.bespoke tier) (rates_within.posted tier))
      (demands_within tier)

  pub capacity_cost_at_most : capacity_cost tiers demands ≤ highest_capacity_cost
  capacity_cost_at_most = omega (arith, cost_at_most 0, cost_at_most 1, cost_at_most 2, cost_at_most 3, cost_at_most 4)
