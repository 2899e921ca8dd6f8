-- How pricing between two figures ends, by document 01's number and values.
use Rattle.std.specs.Prelude.{◌≡◌, ◌⊎◌}
use Rattle.tagged.specs.Ending.{Ending, ending_by}
use Rattle.tagged.specs.File.{refusal}
use Rattle.tagged.specs.Refusals.{value_not_listed, low_above_high}
use Rattle.tagged.specs.declared.file.Refusal.{Refusal}
use Rattle.charge.specs.PriceRefusals.{PricingRefusal}
use Rattle.price_band.specs.PriceBand.{band_values, BandPricing}

-- the values are the six figures
abbrev pub band_ending : BandPricing → Ending
band_ending pricing = ending_by band_values pricing

-- "After 5, a figure past field 08's limit is 3 with file and place 0. Then 15": as pricing refuses, or one of these two
abbrev pub BandRefusal : Refusal → Type 0
BandRefusal r = PricingRefusal r ⊎ ((r ≡ refusal value_not_listed 0 0) ⊎ (r ≡ refusal low_above_high 0 0))
