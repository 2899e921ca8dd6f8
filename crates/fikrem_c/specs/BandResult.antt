-- What the library's call leaves: 14 where the lent figures have fewer than six places; otherwise 0 and the six figures, or the refusal as every call of the
-- interface tells it.
use Rattle.std.specs.Prelude.{ℕ, cond, List, ◌++◌, ltb, ℤ, length, drop, Err, Ok}
use Rattle.tagged.specs.Refusals.{output_too_short}
use Rattle.price_band.specs.PriceBand.{band_values, BandPricing}
use Rattle.price_band.specs.declared.Bands.{Bands}
use Rattle.quoting_unit.specs.Interface.{result_of}

-- "low and high year-one revenue, distribution then transmission"
abbrev pub bands_of : ℕ → ℕ → ℕ → ℕ → Bands
bands_of distribution_low distribution_high transmission_low transmission_high =
    record {
      distribution_low = distribution_low;
      distribution_high = distribution_high;
      transmission_low = transmission_low;
      transmission_high = transmission_high;
    }

-- IR, CC and NC, each lowest then highest
abbrev pub band_places : ℕ
band_places = 6

-- the result, and the lent figures after the call
pub record BandEnd : Type 0 where
  pub result : ℕ
  pub figures : List ℤ

abbrev pub end_of : BandPricing → List ℤ → BandEnd
end_of (Ok band) figures = record { result = 0; figures = band_values band ++ drop band_places figures }
end_of (Err r) figures = record { result = result_of r 0; figures = figures }

abbrev pub band_end : BandPricing → List ℤ → BandEnd
band_end pricing figures = cond (ltb (length figures) band_places) (record { result = output_too_short; figures = figures }) (end_of pricing figures)
