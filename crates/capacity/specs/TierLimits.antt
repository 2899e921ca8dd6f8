-- What an accepted book and request give of the tiers' rates and of demands.
use Rattle.std.specs.Prelude.{ℕ, ◌≤◌, List, slice_index}
use Rattle.field_values.specs.Limits.{highest_rate, highest_demand}
use Rattle.capacity.specs.Capacity.{posted_at, bespoke_at}
use Rattle.capacity.specs.declared.Tiers.{Tiers}

pub record TiersWithin (tiers : Tiers) : Type 0 where
  pub posted : (tier : ℕ) → posted_at tiers tier ≤ highest_rate
  pub bespoke : (tier : ℕ) → bespoke_at tiers tier ≤ highest_rate

abbrev pub DemandsWithin : List ℕ → Type 0
DemandsWithin demands = (tier : ℕ) → slice_index demands tier ≤ highest_demand
