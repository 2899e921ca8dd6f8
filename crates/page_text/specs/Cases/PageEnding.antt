-- How the writing of a page ends, in literals.
use Rattle.std.specs.Prelude.{◌≡◌, refl, [], Err, Ok}
use Rattle.tagged.specs.File.{refusal}
use Rattle.page_text.specs.PageEnding.{page_ending}

pub page_ending_cases_hold :
    (page_ending (Ok tt) ≡ record { number = 0; file = 0; place = 0; values = [] }) ×
    (page_ending (Err (refusal 14 0 0)) ≡ record { number = 14; file = 0; place = 0; values = [] })
page_ending_cases_hold = (refl, refl)
