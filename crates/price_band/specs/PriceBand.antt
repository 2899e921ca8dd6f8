-- Document 02, E5, "Usage known only between two figures": lowest and highest IR, CC and NC, from the bytes of the two files and the four figures alone.
use Rattle.std.specs.Prelude.{ℕ, List, [], ◌∷◌, Bool, ◌&&◌, ℤ, pos, Err, Ok, Result, if◌then◌else◌, nat_le}
use Rattle.tagged.specs.File.{◌>>=◌, fields_part, refusal}
use Rattle.tagged.specs.Refusals.{value_not_listed, low_above_high}
use Rattle.field_values.specs.Limits.{highest_revenue}
use Rattle.book_zones.specs.Zones.{zone_rates}
use Rattle.rate_book.specs.Book.{book_of}
use Rattle.request.specs.Request.{request_of}
use Rattle.reconciliation.specs.declared.Reconciliation.{Reconciliation}
use Rattle.charge.specs.Price.{values_priced, price_of, Pricing}
use Rattle.price_band.specs.declared.Bands.{Bands}
use Rattle.price_band.specs.declared.Band.{Band}
use Rattle.tagged.specs.declared.file.Refusal.{Refusal}

-- the band, or why there is none
abbrev pub BandPricing : Type 0
BandPricing = Result Band Refusal

-- "four figures that stand in for field 08": none is past that field's limit
abbrev pub within_limits : Bands → Bool
within_limits bands =
    nat_le bands.distribution_low highest_revenue
    && nat_le bands.distribution_high highest_revenue
    && nat_le bands.transmission_low highest_revenue
    && nat_le bands.transmission_high highest_revenue

-- no low is above its high
abbrev pub low_to_high : Bands → Bool
low_to_high bands =
    nat_le bands.distribution_low bands.distribution_high && nat_le bands.transmission_low bands.transmission_high

-- "After 5, a figure past field 08's limit is 3 with file and place 0. Then 15: a low above its high, file and place 0."
abbrev pub if_bands : Bands → BandPricing → BandPricing
if_bands bands band =
    if within_limits bands then
    (if low_to_high bands then band else Err (refusal low_above_high 0 0))
    else Err (refusal value_not_listed 0 0)

-- what the request comes to with these year-one revenues in place of its own
abbrev pub priced_with : List ℕ → List ℕ → ℕ → ℕ → Pricing
priced_with book_file request_file distribution transmission = do
  book ← book_of 1 book_file
  request ← request_of 2 request_file
  values_priced book (zone_rates (fields_part book_file)) request distribution transmission

-- "It gives lowest and highest IR, CC and NC." IR and NC never fall with a revenue, and CC never rises.
abbrev pub band_between : Reconciliation → Reconciliation → Band
band_between low high =
    record {
      lowest_ir = low.ir;
      highest_ir = high.ir;
      lowest_cc = high.cc;
      highest_cc = low.cc;
      lowest_nc = low.nc;
      highest_nc = high.nc;
    }

-- of the pricings with both lows and with both highs; 4 and 5 don't go by the revenues, so that neither is refused where the request is priced
abbrev pub band_at_ends : List ℕ → List ℕ → Bands → BandPricing
band_at_ends book_file request_file bands = do
  low ← priced_with book_file request_file bands.distribution_low bands.transmission_low
  high ← priced_with book_file request_file bands.distribution_high bands.transmission_high
  Ok (band_between low.reconciliation high.reconciliation)

-- book, request, 4 and 5 as the request itself is refused, its own field 08 included
unfoldable pub band_of : List ℕ → List ℕ → Bands → BandPricing
band_of book_file request_file bands = do
  bill ← price_of book_file request_file
  if_bands bands (band_at_ends book_file request_file bands)

-- the six figures as one list of values: IR, CC, NC, each lowest then highest
abbrev pub band_values : Band → List ℤ
band_values band =
    pos band.lowest_ir ∷
    pos band.highest_ir ∷
    pos band.lowest_cc ∷
    pos band.highest_cc ∷
    band.lowest_nc ∷
    band.highest_nc ∷
    []
