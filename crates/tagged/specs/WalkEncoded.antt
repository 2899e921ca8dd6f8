-- Parts whose lengths take two bytes, and the fields that they are, one after the other.
use Rattle.std.specs.Prelude.{ℕ, ◌+◌, ◌<◌, length}
use mathlib.Core.List.{List, [], ◌∷◌, Memᴰ, map}
use Rattle.field_walk.specs.Walk.{FieldAt, value_of}

-- the lengths of fields fit two bytes
abbrev pub Short : List FieldAt → Type 0
Short fs = (f : FieldAt) → Memᴰ f fs → f.len < 65536

-- the places of tags and values, one after the other from an offset on
unfoldable pub places_from : ℕ → List (ℕ × List ℕ) → List FieldAt
places_from at [] = []
places_from at (part ∷ parts) = record { tag = part.0; start = at + 3; len = length part.1 } ∷ places_from (at + (length part.1 + 3)) parts

-- the tags and values of a file's fields
abbrev pub parts_of : List ℕ → List FieldAt → List (ℕ × List ℕ)
parts_of s fs = map (λ f. (f.tag, value_of s f)) fs
