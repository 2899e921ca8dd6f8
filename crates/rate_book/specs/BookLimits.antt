-- A book's values within document 01's limits.
use Rattle.std.specs.Prelude.{ℕ, ◌+◌, ◌<◌, ◌≤◌, ◌≡◌, length, slice_index}
use Rattle.field_values.specs.Limits.{most_zones, highest_discount_rate, highest_threshold, highest_minimum, lowest_term, highest_share}
use Rattle.field_values.specs.SumLimits.{sums_below}
use Rattle.field_values.specs.FactorLimits.{FactorsWithin}
use Rattle.rate_book.specs.declared.book.Book.{Book}

pub record BookWithin (book : Book) : Type 0 where
  pub rate : book.rate ≤ highest_discount_rate
  pub opex : book.opex ≤ book.revenue
  pub revenue : 0 < book.revenue
  -- five 4-byte figures
  pub revenue_below : book.revenue < sums_below
  pub distribution : FactorsWithin book.distribution
  pub transmission : FactorsWithin book.transmission
  pub threshold : book.threshold ≤ highest_threshold
  pub fee : book.fee ≤ book.minimum
  pub minimum : book.minimum ≤ highest_minimum
  pub term : lowest_term ≤ book.term
  pub term_below : book.term < 65536
  pub charged : book.charged ≤ 1
  pub share : book.share ≤ highest_share
  pub least_zones : 1 ≤ book.zones
  pub zones_at_most : book.zones ≤ most_zones
  pub numbers : length book.zone_numbers ≡ most_zones
  -- "each above the last"
  pub rise : (i : ℕ) → i + 1 < book.zones → slice_index book.zone_numbers i < slice_index book.zone_numbers (i + 1)
