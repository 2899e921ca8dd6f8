-- Small lists of factors, and what is read of each.
use Rattle.std.specs.Prelude.{ℕ, ◌≡◌, refl, List, [], ◌∷◌, map, replicate}
use Rattle.numbers.specs.BigEndian.{number}
use Rattle.field_values.specs.Factors.{factors_in}
use Rattle.field_values.specs.declared.factors.Factors.{Factors}

-- lists of one, two and eight factors
abbrev small_factors : List (List ℕ × Factors)
small_factors =
    (39 ∷ 16 ∷ [], record { count = 1; values = 10000 ∷ replicate 7 0 }) ∷
    (39 ∷ 16 ∷ 1 ∷ 2 ∷ [], record { count = 2; values = 10000 ∷ 258 ∷ replicate 6 0 }) ∷
    (0 ∷ 1 ∷ 0 ∷ 2 ∷ 0 ∷ 3 ∷ 0 ∷ 4 ∷ 0 ∷ 5 ∷ 0 ∷ 6 ∷ 0 ∷ 7 ∷ 0 ∷ 8 ∷ [], record { count = 8; values = 1 ∷ 2 ∷ 3 ∷ 4 ∷ 5 ∷ 6 ∷ 7 ∷ 8 ∷ [] }) ∷
    []

pub small_factors_hold : map (λ t. factors_in t.0) small_factors ≡ map (λ t. t.1) small_factors
unfolding number
small_factors_hold = refl
