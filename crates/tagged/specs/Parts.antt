-- Document 01, 'Tagged fields': "Finding a field hands back that very part of the file and no copy: its value."
use Rattle.std.specs.Prelude.{ℕ, ◌+◌, ◌-◌, ◌≤◌, ◌≡◌, List, true, length, None, Some, Option, if◌then◌else◌, slice_index}
use Rattle.std.specs.Borrow.{Bor}
use Rattle.field_walk.specs.Walk.{length_at}
use Rattle.tagged.specs.declared.find.Place.{Place}
use Rattle.tagged.specs.declared.find.Field.{Field}
use Rattle.tagged.specs.Find.{whole_field, place_at, part_of, start_of}

-- the value of the field at the front, and the rest of the file after it
abbrev pub value_place : List ℕ → Option Place
value_place s = if whole_field s then place_at 3 (length_at s) else None

abbrev pub rest_place : List ℕ → Option Place
rest_place s = if whole_field s then place_at (length_at s + 3) (length s - (length_at s + 3)) else None

-- a place lies within a file of this size
abbrev pub PlaceWithin : ℕ → Option Place → Type 0
PlaceWithin size None = Unit {0}
PlaceWithin size (Some place) = place.start + place.len ≤ size

-- r refers to that very part of the file: it has the part's bytes, and points to where the part starts in the file
pub record IsPart (place : Option Place) (file r : Bor (List ℕ)) : Type 0 where
  pub bytes : r.now ≡ part_of place file.now
  pub pointer : r.ref_ptr ≡ (file.ref_ptr.0, start_of place + file.ref_ptr.1)

-- the field that the rest of a file starts with: a whole one, with its tag, and its value and the rest after it as those very parts
pub record NextField (s : Bor (List ℕ)) (field : Field) : Type 0 where
  pub whole : whole_field s.now ≡ true
  pub tag : field.tag ≡ slice_index s.now 0
  pub value : IsPart (value_place s.now) s field.value
  pub rest : IsPart (rest_place s.now) s field.rest
