-- The values of a request with other year-one revenues.
use Rattle.std.specs.Prelude.{ℕ}
use Rattle.request.specs.declared.values.Request.{Request}

abbrev pub with_revenues : ℕ → ℕ → Request → Request
with_revenues distribution transmission request = record request { distribution_revenue = distribution; transmission_revenue = transmission }
