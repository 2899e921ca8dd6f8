-- The check's marked figures.
use Rattle.std.specs.Prelude.{◌≡◌, refl, [], ◌∷◌}
use Rattle.numbers.specs.Check.{check_from, check}

-- M1: "check of no bytes 0; of 01 02, 517; of FF FF, 527."
pub check_marked_figures : (check [] ≡ 0) × (check (1 ∷ 2 ∷ []) ≡ 517) × (check (255 ∷ 255 ∷ []) ≡ 527)
unfolding check_from
check_marked_figures = (refl, refl, refl)
