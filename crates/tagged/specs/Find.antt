-- Document 01, 'Tagged fields': "Finding a field hands back that very part of the file and no copy: its value."
-- The search needs no rows: it goes from field to field by their lengths, as far as whole fields stand.
use Rattle.std.specs.Prelude.{ℕ, zero, suc, ◌+◌, List, [], ◌∷◌, Bool, false, length, take, drop, None, Some, Option, if◌then◌else◌, ◌==◌, nat_lt, nat_le, slice_index}
use Rattle.field_walk.specs.Walk.{FieldAt, length_at}
use Rattle.tagged.specs.declared.find.Place.{Place}

-- a whole field stands at the front
abbrev pub whole_field : List ℕ → Bool
whole_field s = if nat_lt (length s) 3 then false else nat_le (length_at s + 3) (length s)

-- the fields from the front of the rest s, which starts at the offset `at` of the file; `most` bounds their number
unfoldable pub fields_from : ℕ → ℕ → List ℕ → List FieldAt
fields_from zero at s = []
fields_from (suc most) at s =
    let others = fields_from most (at + (length_at s + 3)) (drop (length_at s + 3) s) in
    if whole_field s then record { tag = slice_index s 0; start = at + 3; len = length_at s } ∷ others else []

abbrev pub fields_of : List ℕ → List FieldAt
fields_of s = fields_from (length s + 1) 0 s

abbrev pub place_at : ℕ → ℕ → Option Place
place_at start len = Some (record { start = start; len = len })

-- the place of the first field's value among those with this tag
unfoldable pub first_with : ℕ → List FieldAt → Option Place
first_with tag [] = None
first_with tag (f ∷ fs) = if f.tag == tag then place_at f.start f.len else first_with tag fs

abbrev pub first_place : ℕ → List ℕ → Option Place
first_place tag s = first_with tag (fields_of s)

-- the part of the file at a place, and the offset at which it starts; no bytes where there is none
abbrev pub part_of : Option Place → List ℕ → List ℕ
part_of None s = []
part_of (Some place) s = take place.len (drop place.start s)

abbrev pub start_of : Option Place → ℕ
start_of None = 0
start_of (Some place) = place.start

-- the value of the first field with this tag, and the offset at which it starts
abbrev pub field_value : ℕ → List ℕ → List ℕ
field_value tag s = part_of (first_place tag s) s

abbrev pub field_start : ℕ → List ℕ → ℕ
field_start tag s = start_of (first_place tag s)

-- of some fields, those with this tag
unfoldable pub fields_with : ℕ → List FieldAt → List FieldAt
fields_with tag [] = []
fields_with tag (f ∷ fs) = if f.tag == tag then f ∷ fields_with tag fs else fields_with tag fs
