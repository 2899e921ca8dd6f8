-- The rows of a stored ledger: their tags rise, and each permits one length, and its field so often.
use Rattle.std.specs.Prelude.{ℕ, ◌≡◌, refl, List, [], ◌∷◌, map, drop, Bool, true, false, get_or, None, Some}
use Rattle.field_walk.specs.Walk.{permitted_by, due_from, Due}
use Rattle.tagged.specs.RisingTags.{rising_tags}
use Rattle.stored.specs.StoredRows.{stored_rows}
use Rattle.stored.specs.declared.form.Form.{Form}
use Rattle.stored.specs.declared.form.Form.TheVariants.{Pion, Pio2}

-- "in rising tag order"
pub stored_rows_rise : (form : Form) → rising_tags (stored_rows form) ≡ true
stored_rows_rise Pion = refl
stored_rows_rise Pio2 = refl

-- lengths one byte less, right, and one byte more, of the row in this place
abbrev permitted : Form → ℕ → List ℕ → List Bool
permitted form k lengths = map (permitted_by (get_or (stored_rows form) k [])) lengths

abbrev one_of_three : List Bool
one_of_three = false ∷ true ∷ false ∷ []

pub lengths_permitted :
    (permitted Pion 0 (3 ∷ 4 ∷ 5 ∷ []) ≡ one_of_three)
    × (permitted Pion 1 (21 ∷ 22 ∷ 23 ∷ []) ≡ one_of_three)
    × (permitted Pion 2 (23 ∷ 24 ∷ 25 ∷ []) ≡ one_of_three)
    × (permitted Pion 3 (29 ∷ 30 ∷ 31 ∷ []) ≡ one_of_three)
    × (permitted Pio2 0 (3 ∷ 4 ∷ 5 ∷ []) ≡ one_of_three)
    × (permitted Pio2 1 (53 ∷ 54 ∷ 55 ∷ []) ≡ one_of_three)
    × (permitted Pio2 2 (27 ∷ 28 ∷ 29 ∷ []) ≡ one_of_three)
    × (permitted Pio2 3 (33 ∷ 34 ∷ 35 ∷ []) ≡ one_of_three)
lengths_permitted = (refl, refl, refl, refl, refl, refl, refl, refl)

-- where n fields of row k have come: what a field of this tag counts to
abbrev due_cases : List ((ℕ × ℕ × ℕ) × Due)
due_cases =
    -- letters and head once each, and neither may lack
    ((0, 0, 1), Some (0, 1)) ∷
    ((0, 1, 1), None) ∷
    ((0, 0, 2), None) ∷
    ((0, 1, 2), Some (1, 1)) ∷
    ((1, 1, 2), None) ∷
    ((1, 0, 3), None) ∷
    -- 64 schemes and 512 entries, or none
    ((1, 1, 3), Some (2, 1)) ∷
    ((2, 63, 3), Some (2, 64)) ∷
    ((2, 64, 3), None) ∷
    ((1, 1, 4), Some (3, 1)) ∷
    ((2, 64, 4), Some (3, 1)) ∷
    ((3, 511, 4), Some (3, 512)) ∷
    ((3, 512, 4), None) ∷
    ((3, 1, 3), None) ∷
    []

pub fields_due : (form : Form) → map (λ row. due_from (drop row.0.0 (stored_rows form)) row.0.0 row.0.1 row.0.2) due_cases ≡ map (λ row. row.1) due_cases
unfolding due_from
fields_due Pion = refl
fields_due Pio2 = refl
