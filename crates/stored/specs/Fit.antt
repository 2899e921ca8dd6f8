-- Numbers within the widths of a record.
use Rattle.std.specs.Prelude.{ℕ, ◌^◌, ◌<◌, List, [], ◌∷◌}

-- as many values as widths, each within its width
abbrev pub Fit : List ℕ → List ℕ → Type 0
Fit [] [] = Unit {0}
Fit [] (value ∷ values) = ⊥
Fit (width ∷ widths) [] = ⊥
Fit (width ∷ widths) (value ∷ values) = (value < 256 ^ width) × Fit widths values
