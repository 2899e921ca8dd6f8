-- How high the cost of capacity is, and what an accepted book and request give of the tiers' rates and of demands.
use Rattle.std.specs.Prelude.{ℕ, ◌*◌, ◌/◌}
use Rattle.field_values.specs.Limits.{tier_count, highest_rate, highest_demand}

-- the highest demand at the highest rate
abbrev pub highest_tier_cost : ℕ
highest_tier_cost = highest_rate * highest_demand / 100

-- the sum of the tiers
abbrev pub highest_capacity_cost : ℕ
highest_capacity_cost = tier_count * highest_tier_cost
