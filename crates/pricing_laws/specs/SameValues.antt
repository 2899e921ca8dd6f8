-- Document 02, E6: "a two-byte number up to 255 means the same zone as the one-byte number". Books and requests that have the same values, whatever bytes their
-- zone numbers take.
use Rattle.std.specs.Prelude.{ℕ, ◌+◌, ◌≡◌, take, drop, None, Ok, Some, Option, if◌then◌else◌, ◌==◌}
use mathlib.Core.List.{List, ◌∷◌, map}
use Rattle.numbers.specs.BigEndian.{Bytes}
use Rattle.tagged.specs.File.{fields_part, file_answer}
use Rattle.tagged.specs.Find.{first_place, field_value}
use Rattle.tagged.specs.declared.find.Place.{Place}
use Rattle.book_zones.specs.Zones.{number_width, zone_starts}

-- a value that begins with a zone number of so many bytes, with the number in two
abbrev pub in_two_bytes : ℕ → List ℕ → List ℕ
in_two_bytes width value = if width == 1 then 0 ∷ value else value

-- the zones of the fields s: number and rates, each number in two bytes
abbrev pub zone_in_two_bytes_at : List ℕ → ℕ → List ℕ
zone_in_two_bytes_at s at = in_two_bytes (number_width s) (take (number_width s + 20) (drop at s))

abbrev pub zones_in_two_bytes : List ℕ → List (List ℕ)
zones_in_two_bytes s = map (zone_in_two_bytes_at s) (zone_starts s)

-- the zone that a request names, its number in two bytes
abbrev pub zone_bytes_by : Option Place → List ℕ → List ℕ
zone_bytes_by None s = in_two_bytes 1 (take 1 (field_value 4 s))
zone_bytes_by (Some place) s = in_two_bytes 2 (take 2 (field_value 13 s))

abbrev pub zone_in_two_bytes : List ℕ → List ℕ
zone_in_two_bytes s = zone_bytes_by (first_place 13 s) s

-- two books that have the same values in 01 to 07 and the same zones, of whatever form
pub record SameBooks (s s' : List ℕ) : Type 0 where
  pub letters : field_value 1 s ≡ field_value 1 s'
  pub rate : field_value 2 s ≡ field_value 2 s'
  pub figures : field_value 3 s ≡ field_value 3 s'
  pub distribution : field_value 4 s ≡ field_value 4 s'
  pub transmission : field_value 5 s ≡ field_value 5 s'
  pub terms : field_value 6 s ≡ field_value 6 s'
  pub charging : field_value 7 s ≡ field_value 7 s'
  pub zones : zones_in_two_bytes s ≡ zones_in_two_bytes s'

-- two requests that have the same values but for the form of the zone number
pub record SameRequests (s s' : List ℕ) : Type 0 where
  pub letters : field_value 1 s ≡ field_value 1 s'
  pub person : field_value 2 s ≡ field_value 2 s'
  pub class : field_value 3 s ≡ field_value 3 s'
  pub amounts : field_value 5 s ≡ field_value 5 s'
  pub tiers : field_value 6 s ≡ field_value 6 s'
  pub added : field_value 7 s ≡ field_value 7 s'
  pub revenues : field_value 8 s ≡ field_value 8 s'
  pub part_year : field_value 9 s ≡ field_value 9 s'
  pub distribution : field_value 10 s ≡ field_value 10 s'
  pub transmission : field_value 11 s ≡ field_value 11 s'
  pub connection : field_value 12 s ≡ field_value 12 s'
  pub zone : zone_in_two_bytes s ≡ zone_in_two_bytes s'

-- another file of bytes that stands, with a field of the second form and the same values
pub record InTwoBytes (rows : List (List ℕ)) (number tag : ℕ) (Same : List ℕ → List ℕ → Type 0) (file : List ℕ) : Type 0 where
  pub other : List ℕ
  pub bytes : Bytes other
  pub stands : file_answer rows number other ≡ Ok tt
  pub wide : first_place tag (fields_part other) ≡ None → ⊥
  pub same : Same (fields_part file) (fields_part other)
