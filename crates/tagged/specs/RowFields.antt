-- The fields of a walk that count to a row.
use Rattle.std.specs.Prelude.{ℕ, ◌+◌, ◌≤◌, ◌≡◌, true, length}
use mathlib.Core.List.{List, ◌∷◌, ◌++◌, Memᴰ}
use Rattle.field_walk.specs.Walk.{tag_of, least_of, most_of, permitted_by, FieldAt}
use Rattle.tagged.specs.WalkRelations.{Stand}

-- a field that counts to a row: its tag, and a length that the row permits
pub record OfRow (row : List ℕ) (f : FieldAt) : Type 0 where
  pub tag : f.tag ≡ tag_of row
  pub permitted : permitted_by row f.len ≡ true

-- "Every field listed occurs once": the one field of the row, and those after it
pub record Once (row : List ℕ) (rows : List (List ℕ)) (fs : List FieldAt) : Type 0 where
  pub f : FieldAt
  pub others : List FieldAt
  pub are : fs ≡ f ∷ others
  pub of_row : OfRow row f
  pub rest : Stand rows 0 others

-- "except where a count is given": the fields of the row, where n of it have come before them, and those after it
pub record Repeated (row : List ℕ) (rows : List (List ℕ)) (n : ℕ) (fs : List FieldAt) : Type 0 where
  pub mine : List FieldAt
  pub others : List FieldAt
  pub are : fs ≡ mine ++ others
  pub least : least_of row ≤ n + length mine
  pub most : n + length mine ≤ most_of row
  pub of_row : (f : FieldAt) → Memᴰ f mine → OfRow row f
  pub rest : Stand rows 0 others
