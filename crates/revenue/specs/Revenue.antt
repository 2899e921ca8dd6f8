-- Document 01, 'Charge and reconciliation': the opex factor and the revenue of the years.
use Rattle.std.specs.Prelude.{ℕ, zero, suc, ◌+◌, ◌*◌, ◌-◌, ◌/◌, min, if◌then◌else◌, ◌==◌, slice_index}
use Rattle.field_values.specs.declared.factors.Factors.{Factors}
use Rattle.field_values.specs.Limits.{special_pricing}
use Rattle.discount.specs.Discount.{discount}
use Rattle.revenue.specs.declared.Stream.{Stream}

-- "Opex factor O = ⌊10,000 × (revenue sum − opex sum) / revenue sum⌋; 10,000 for transmission."
abbrev pub opex_factor : ℕ → ℕ → ℕ
opex_factor opex revenue = 10000 * (revenue - opex) / revenue

abbrev pub transmission_opex_factor : ℕ
transmission_opex_factor = 10000

-- Document 02, E3: "special pricing, life 15, O taken as 10,000 for distribution too"
abbrev pub distribution_opex_factor : ℕ → ℕ → ℕ → ℕ
distribution_opex_factor class opex revenue = if class == special_pricing then transmission_opex_factor else opex_factor opex revenue

-- "A list's first factor is year 0's, its last holds for all later years."
abbrev pub factor_of : Factors → ℕ → ℕ
factor_of list n = slice_index list.values (min n (list.count - 1))

-- "0 residential, life 30; 1 non-residential, life 15." Document 02, E3: "special pricing, life 15".
abbrev pub life_of : ℕ → ℕ
life_of class = if class == 0 then 30 else 15

-- × a factor / 10,000, rounded down
abbrev pub scaled : ℕ → ℕ → ℕ
scaled x factor = x * factor / 10000

-- "Year n, .. revenue × O / 10,000, then × the part-year, revenue and tariff factor of year n, each / 10,000, then × F(n) / 100,000,000, rounded down
-- after each division."
abbrev pub year_revenue : ℕ → ℕ → ℕ → ℕ → ℕ → ℕ → ℕ
year_revenue revenue o part_year revenue_factor tariff_factor f =
    scaled (scaled (scaled (scaled revenue o) part_year) revenue_factor) tariff_factor * f / 100000000

abbrev pub stream_year : Stream → ℕ → ℕ → ℕ
stream_year stream n f =
    year_revenue stream.revenue stream.opex_factor
    (factor_of stream.part_year n) (factor_of stream.revenue_factors n) (factor_of stream.tariff_factors n)
    f

-- "IR sums all years, distribution and transmission": so many years from year 0 on. For the years 0 to life inclusive these are life + 1.
unfoldable pub incremental_revenue : Stream → Stream → ℕ → ℕ → ℕ
incremental_revenue distribution transmission b zero = 0
incremental_revenue distribution transmission b (suc n) =
    incremental_revenue distribution transmission b n + (stream_year distribution n (discount b n) + stream_year transmission n (discount b n))
