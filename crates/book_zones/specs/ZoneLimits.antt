-- Rates within their limit, zone by zone.
use Rattle.std.specs.Prelude.{ℕ, ◌<◌, ◌≤◌, ◌≡◌, List, [], length, slice_index, slice_index_or}
use Rattle.field_values.specs.Limits.{most_zones, tier_count, highest_rate}

-- "five 4-byte rates, cents per kVA, at most 10,000,000", as a row of five tiers for each zone
pub record RatesWithin (rates : List (List ℕ)) (zones : ℕ) : Type 0 where
  pub rows : length rates ≡ most_zones
  pub tiers : (i : ℕ) → i < most_zones → length (slice_index_or rates i []) ≡ tier_count
  pub each : (i tier : ℕ) → i < zones → slice_index (slice_index_or rates i []) tier ≤ highest_rate
