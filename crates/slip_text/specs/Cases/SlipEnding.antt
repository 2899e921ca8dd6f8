-- How the writing of a slip ends, in literals.
use Rattle.std.specs.Prelude.{◌≡◌, refl, [], ◌∷◌, pos, Err, Ok}
use Rattle.tagged.specs.File.{refusal}
use Rattle.slip_text.specs.SlipEnding.{slip_ending}

pub slip_ending_cases_hold :
    (slip_ending (Ok 97) ≡ record { number = 0; file = 0; place = 0; values = pos 97 ∷ [] }) ×
    (slip_ending (Err (refusal 14 0 0)) ≡ record { number = 14; file = 0; place = 0; values = [] })
slip_ending_cases_hold = (refl, refl)
