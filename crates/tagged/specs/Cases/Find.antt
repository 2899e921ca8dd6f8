-- Small fields, and what is found by tag.
use Rattle.std.specs.Prelude.{ℕ, ◌≡◌, refl, List, [], ◌∷◌, map}
use Rattle.numbers.specs.BigEndian.{number}
use Rattle.tagged.specs.Find.{fields_from, fields_of, first_with, part_of, field_value, field_start}
use Rattle.tagged.specs.Parts.{value_place, rest_place}

-- fields 1, 2, 2 and 3
abbrev small_fields : List ℕ
small_fields = 1 ∷ 0 ∷ 1 ∷ 7 ∷ 2 ∷ 0 ∷ 2 ∷ 8 ∷ 9 ∷ 2 ∷ 0 ∷ 4 ∷ 10 ∷ 11 ∷ 12 ∷ 13 ∷ 3 ∷ 0 ∷ 1 ∷ 14 ∷ []

-- the first field with a tag, where its value starts, and no bytes where there is none; the field at the front, and the rest after it
pub record SmallFieldsFound : Type 0 where
  pub values : map (λ tag. field_value tag small_fields) (1 ∷ 2 ∷ 3 ∷ 4 ∷ []) ≡ (7 ∷ []) ∷ (8 ∷ 9 ∷ []) ∷ (14 ∷ []) ∷ [] ∷ []
  pub starts : map (λ tag. field_start tag small_fields) (1 ∷ 2 ∷ 3 ∷ 4 ∷ []) ≡ 3 ∷ 7 ∷ 19 ∷ 0 ∷ []
  pub every_start : map (λ f. f.start) (fields_of small_fields) ≡ 3 ∷ 7 ∷ 12 ∷ 19 ∷ []
  pub next_value : part_of (value_place small_fields) small_fields ≡ 7 ∷ []
  pub next_rest : part_of (rest_place (2 ∷ 0 ∷ 2 ∷ 8 ∷ 9 ∷ 3 ∷ 0 ∷ 1 ∷ 14 ∷ [])) (2 ∷ 0 ∷ 2 ∷ 8 ∷ 9 ∷ 3 ∷ 0 ∷ 1 ∷ 14 ∷ []) ≡ 3 ∷ 0 ∷ 1 ∷ 14 ∷ []

pub small_fields_found : SmallFieldsFound
unfolding number fields_from first_with
small_fields_found = record { values = refl; starts = refl; every_start = refl; next_value = refl; next_rest = refl }
