-- What a walk by any rows says of its fields: they stand by the rows (`Stand`), and they are the file, one after the other (`Fields`).
use Rattle.std.specs.Prelude.{ℕ, ◌+◌, ◌<◌, ◌≤◌, ◌≡◌, true, length, slice_index}
use mathlib.Core.List.{List, [], ◌∷◌}
use Rattle.numbers.specs.BigEndian.{number_at}
use Rattle.field_walk.specs.Walk.{tag_of, least_of, most_of, permitted_by, FieldAt}

-- The fields stand by the rows, where n fields of the first row have come before them.
pub data Stand : List (List ℕ) → ℕ → List FieldAt → Type 0 where
  end : {n : ℕ} → Stand [] n []
  next_row : {row : List ℕ} {rows : List (List ℕ)} {n : ℕ} {fs : List FieldAt} → least_of row ≤ n → Stand rows 0 fs → Stand (row ∷ rows) n fs
  field : {row : List ℕ} {rows : List (List ℕ)} {n : ℕ} {f : FieldAt} {fs : List FieldAt} → f.tag ≡ tag_of row → permitted_by row f.len ≡ true →
      n < most_of row → Stand (row ∷ rows) (n + 1) fs → Stand (row ∷ rows) n (f ∷ fs)

-- The field f stands at the offset `at` of the file s, and ends within it.
pub record StandsAt (s : List ℕ) (at : ℕ) (f : FieldAt) : Type 0 where
  pub tag : f.tag ≡ slice_index s at
  pub start : f.start ≡ at + 3
  pub len : f.len ≡ number_at s (at + 1) 2
  pub within : f.start + f.len ≤ length s

-- The file s from the offset `at` on is these fields, one after the other, and nothing else.
pub data Fields (s : List ℕ) : ℕ → List FieldAt → Type 0 where
  none : {at : ℕ} → length s ≤ at → Fields s at []
  first : {at : ℕ} {f : FieldAt} {fs : List FieldAt} → StandsAt s at f → Fields s (at + (f.len + 3)) fs → Fields s at (f ∷ fs)
