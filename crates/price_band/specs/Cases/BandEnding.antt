-- How pricing between two figures ends, in literals.
use Rattle.std.specs.Prelude.{◌≡◌, refl, [], ◌∷◌, pos, negsuc, Err}
use Rattle.tagged.specs.File.{refusal}
use Rattle.price_band.specs.BandEnding.{band_ending}
use Rattle.price_band.specs.Cases.PriceBand.{band_of_figures}

pub band_ending_cases_hold :
    (band_ending (band_of_figures 1 2 3 4 (negsuc 4) (pos 6))
    ≡ record { number = 0; file = 0; place = 0; values = pos 1 ∷ pos 2 ∷ pos 3 ∷ pos 4 ∷ negsuc 4 ∷ pos 6 ∷ [] }) ×
    (band_ending (Err (refusal 15 0 0)) ≡ record { number = 15; file = 0; place = 0; values = [] })
band_ending_cases_hold = (refl, refl)
