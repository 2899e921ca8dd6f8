-- The refusals that the call can come to: pricing's, 15, and 14 for short figures.
use Rattle.std.specs.Prelude.{ℕ, List, ◌∷◌}
use Rattle.tagged.specs.Refusals.{low_above_high}
use Rattle.quoting_unit.specs.UnitResults.{pricing_numbers}

abbrev pub band_numbers : List ℕ
band_numbers = low_above_high ∷ pricing_numbers
