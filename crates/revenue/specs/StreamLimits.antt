-- What the streams and the sums of revenue lie within.
use Rattle.std.specs.Prelude.{ℕ, ◌≤◌}
use Rattle.field_values.specs.FactorLimits.{FactorsWithin}
use Rattle.field_values.specs.Limits.{highest_revenue}
use Rattle.revenue.specs.declared.Stream.{Stream}

-- 10,000 is one: opex takes from the revenue and adds nothing
abbrev pub highest_opex_factor : ℕ
highest_opex_factor = 10000

-- "0 residential, life 30"
abbrev pub longest_life : ℕ
longest_life = 30

-- what an accepted book and request give of a stream
pub record StreamWithin (stream : Stream) : Type 0 where
  pub revenue : stream.revenue ≤ highest_revenue
  pub opex_factor : stream.opex_factor ≤ highest_opex_factor
  pub part_year : FactorsWithin stream.part_year
  pub revenue_factors : FactorsWithin stream.revenue_factors
  pub tariff_factors : FactorsWithin stream.tariff_factors
