-- What the call leaves, in literals: a band, refusals of each kind, and figures that are too short.
use Rattle.std.specs.Prelude.{◌≡◌, refl, [], ◌∷◌, pos, negsuc, replicate, Err}
use Rattle.tagged.specs.File.{refusal}
use Rattle.price_band.specs.Cases.PriceBand.{band_of_figures}
use Rattle.fikrem_c.specs.BandResult.{bands_of, band_end}

pub bands_in_order : bands_of 1 2 3 4 ≡ record { distribution_low = 1; distribution_high = 2; transmission_low = 3; transmission_high = 4 }
bands_in_order = refl

-- seven places, of which the last is left alone; 15; 3 for a figure; the request's field 08; five places; a zone that is not in the book with six places, and with
-- five, which are told first
pub band_results_hold :
    (band_end (band_of_figures 1 2 3 4 (negsuc 4) (pos 6)) (replicate 7 (pos 9))
    ≡ record { result = 0; figures = pos 1 ∷ pos 2 ∷ pos 3 ∷ pos 4 ∷ negsuc 4 ∷ pos 6 ∷ pos 9 ∷ [] })
    × (band_end (Err (refusal 15 0 0)) (replicate 6 (pos 9)) ≡ record { result = 15; figures = replicate 6 (pos 9) })
    × (band_end (Err (refusal 3 0 0)) (replicate 6 (pos 9)) ≡ record { result = 3; figures = replicate 6 (pos 9) })
    × (band_end (Err (refusal 3 2 123)) (replicate 6 (pos 9)) ≡ record { result = 31555; figures = replicate 6 (pos 9) })
    × (band_end (band_of_figures 1 2 3 4 (negsuc 4) (pos 6)) (replicate 5 (pos 9)) ≡ record { result = 14; figures = replicate 5 (pos 9) })
    × (band_end (Err (refusal 4 2 0)) (replicate 6 (pos 9)) ≡ record { result = 68; figures = replicate 6 (pos 9) })
    × (band_end (Err (refusal 4 2 0)) (replicate 5 (pos 9)) ≡ record { result = 14; figures = replicate 5 (pos 9) })
band_results_hold = (refl, refl, refl, refl, refl, refl, refl)
