-- Small values at their limits and one past them, and letters, with the place of the first that fails.
use Rattle.std.specs.Prelude.{ℕ, ◌≡◌, refl, List, [], ◌∷◌, map, true, false, length, Err, Ok}
use Rattle.numbers.specs.BigEndian.{number}
use Rattle.tagged.specs.Find.{fields_from, first_with}
use Rattle.field_values.specs.Judged.{judge, first_failure, judge_numbers, judge_field, same_bytes, judge_letters, Judged}

-- For a table of small values: 0 to 300 in 2 bytes, 1 to 3 in one, 0 to 65,536 in 4.
abbrev small_limits : List (List ℕ)
small_limits = (2 ∷ 0 ∷ 300 ∷ []) ∷ (1 ∷ 1 ∷ 3 ∷ []) ∷ (4 ∷ 0 ∷ 65536 ∷ []) ∷ []

-- the letters R A T E at 3, and a value at 10
abbrev fields_of_value : List ℕ → List ℕ
fields_of_value value = 1 ∷ 0 ∷ 4 ∷ 82 ∷ 65 ∷ 84 ∷ 69 ∷ 2 ∷ 0 ∷ length value ∷ value

abbrev small_values : List (List ℕ × Judged)
small_values =
    -- each number at its highest and at its lowest
    (1 ∷ 44 ∷ 3 ∷ 0 ∷ 1 ∷ 0 ∷ 0 ∷ [], Ok tt) ∷
    (0 ∷ 0 ∷ 1 ∷ 0 ∷ 0 ∷ 0 ∷ 0 ∷ [], Ok tt) ∷
    -- each past one of the two
    (1 ∷ 45 ∷ 3 ∷ 0 ∷ 1 ∷ 0 ∷ 0 ∷ [], Err 10) ∷
    (1 ∷ 44 ∷ 4 ∷ 0 ∷ 1 ∷ 0 ∷ 0 ∷ [], Err 12) ∷
    (1 ∷ 44 ∷ 0 ∷ 0 ∷ 1 ∷ 0 ∷ 0 ∷ [], Err 12) ∷
    (1 ∷ 44 ∷ 3 ∷ 0 ∷ 1 ∷ 0 ∷ 1 ∷ [], Err 13) ∷
    -- "in byte order"
    (1 ∷ 45 ∷ 4 ∷ 0 ∷ 1 ∷ 0 ∷ 1 ∷ [], Err 10) ∷
    (1 ∷ 44 ∷ 0 ∷ 0 ∷ 1 ∷ 0 ∷ 1 ∷ [], Err 12) ∷
    -- a value that ends before the limits do
    ([], Ok tt) ∷
    (1 ∷ 45 ∷ [], Err 10) ∷
    (1 ∷ 44 ∷ 3 ∷ [], Ok tt) ∷
    []

-- letters to compare with those of field 01
abbrev small_letters : List (List ℕ × Judged)
small_letters =
    (82 ∷ 65 ∷ 84 ∷ 69 ∷ [], Ok tt) ∷
    (82 ∷ 65 ∷ 84 ∷ 70 ∷ [], Err 3) ∷
    (83 ∷ 65 ∷ 84 ∷ 69 ∷ [], Err 3) ∷
    (82 ∷ 65 ∷ 84 ∷ [], Err 3) ∷
    (82 ∷ 65 ∷ 84 ∷ 69 ∷ 0 ∷ [], Err 3) ∷
    []

-- of judgements at 3, 5 and 8 the first that fails
pub first_failures :
    (first_failure [] ≡ Ok tt)
    × (first_failure (judge true 3 ∷ judge true 5 ∷ judge true 8 ∷ []) ≡ Ok tt)
    × (first_failure (judge false 3 ∷ judge false 5 ∷ judge true 8 ∷ []) ≡ Err 3)
    × (first_failure (judge true 3 ∷ judge false 5 ∷ judge false 8 ∷ []) ≡ Err 5)
    × (first_failure (judge true 3 ∷ judge true 5 ∷ judge false 8 ∷ []) ≡ Err 8)
first_failures = (refl, refl, refl, refl, refl)

pub record SmallValuesHold : Type 0 where
  pub values : map (λ t. judge_field small_limits 2 (fields_of_value t.0)) small_values ≡ map (λ t. t.1) small_values
  pub letters : map (λ t. judge_letters t.0 (fields_of_value [])) small_letters ≡ map (λ t. t.1) small_letters

pub small_values_hold : SmallValuesHold
unfolding number fields_from first_with judge_numbers same_bytes
small_values_hold = record { values = refl; letters = refl }
