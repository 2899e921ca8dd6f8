-- Fields of a file that lie in it, one after the other, and what a reader sees of them.
use Rattle.std.specs.Prelude.{ℕ, ◌+◌, ◌-◌, ◌≤◌, ◌≡◌, List, true, length, drop, slice_index}
use Rattle.field_walk.specs.Walk.{tag_of, permitted_by, length_at, FieldAt, value_of}
use Rattle.tagged.specs.Find.{place_at, whole_field, first_place, part_of}
use Rattle.tagged.specs.Parts.{value_place, rest_place}
use Rattle.tagged.specs.WalkRelations.{StandsAt, Fields}

-- What a reader sees whose rest of the file starts at a field: its value, and the rest of the file after it.
pub record Seen (s : List ℕ) (at : ℕ) (f : FieldAt) : Type 0 where
  pub tag : slice_index (drop at s) 0 ≡ f.tag
  pub len : length_at (drop at s) ≡ f.len
  pub ends : f.len + 3 ≤ length (drop at s)
  pub whole : whole_field (drop at s) ≡ true
  pub value_place_is : value_place (drop at s) ≡ place_at 3 f.len
  pub rest_place_is : rest_place (drop at s) ≡ place_at (f.len + 3) (length (drop at s) - (f.len + 3))
  pub value : part_of (value_place (drop at s)) (drop at s) ≡ value_of s f
  pub rest : part_of (rest_place (drop at s)) (drop at s) ≡ drop (at + (f.len + 3)) s

-- The next field of a reader that goes on field by field, and where it stands then.
pub record Next (s : List ℕ) (at : ℕ) (f : FieldAt) (others : List FieldAt) : Type 0 where
  pub stands : StandsAt s at f
  pub seen : Seen s at f
  pub rest : Fields s (at + (f.len + 3)) others

-- What a reader finds for a row: the value of a field with a length that the row permits, inside the file.
pub record Found (row : List ℕ) (s : List ℕ) : Type 0 where
  pub start : ℕ
  pub len : ℕ
  pub found : first_place (tag_of row) s ≡ place_at start len
  pub permitted : permitted_by row len ≡ true
  pub within : start + len ≤ length s
