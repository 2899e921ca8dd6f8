-- Results in literals: a page, and a refusal of each kind.
use Rattle.std.specs.Prelude.{◌≡◌, refl, Err, Ok}
use Rattle.tagged.specs.File.{refusal}
use Rattle.quoting_unit.specs.Interface.{answer_result}

-- a page; a check of the book at 134, a zone, a tier, and an output that is too short
pub page_results :
    (answer_result (Ok tt) ≡ 0)
    × (answer_result (Err (refusal 2 1 134)) ≡ 34338)
    × (answer_result (Err (refusal 4 2 0)) ≡ 68)
    × (answer_result (Err (refusal 5 2 3)) ≡ 837)
    × (answer_result (Err (refusal 14 0 0)) ≡ 14)
page_results = (refl, refl, refl, refl, refl)
