-- How high the figures of the revenue are, by the limits of what they come from.
use Rattle.std.specs.Prelude.{ℕ, ◌*◌}
use Rattle.field_values.specs.Limits.{highest_revenue}

-- the part-year, revenue and tariff factor are at most 4 each
abbrev pub highest_year_revenue : ℕ
highest_year_revenue = 64 * highest_revenue

-- two streams, each over the years 0 to 30
abbrev pub highest_incremental_revenue : ℕ
highest_incremental_revenue = 31 * (2 * highest_year_revenue)
