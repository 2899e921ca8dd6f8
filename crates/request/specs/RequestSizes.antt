-- The lengths of the values of a request that walks, as its rows give them.
use Rattle.std.specs.Prelude.{ℕ, ◌≡◌, List, length, None, Some, Option}
use Rattle.tagged.specs.Find.{first_place, field_value}
use Rattle.tagged.specs.declared.find.Place.{Place}
use Rattle.field_values.specs.FactorLimits.{FactorBytes}

-- a zone number of one byte in 04, or of two in 0D
abbrev pub ZoneBytes : Option Place → List ℕ → Type 0
ZoneBytes None s = length (field_value 4 s) ≡ 1
ZoneBytes (Some place) s = length (field_value 13 s) ≡ 2

pub record RequestSizes (s : List ℕ) : Type 0 where
  pub person : length (field_value 2 s) ≡ 4
  pub class : length (field_value 3 s) ≡ 1
  pub zone : ZoneBytes (first_place 13 s) s
  pub amounts : length (field_value 5 s) ≡ 24
  pub tiers : length (field_value 6 s) ≡ 45
  pub added : length (field_value 7 s) ≡ 20
  pub revenues : length (field_value 8 s) ≡ 8
  pub part_year : FactorBytes (field_value 9 s)
  pub distribution : FactorBytes (field_value 10 s)
  pub transmission : FactorBytes (field_value 11 s)
  pub connection : length (field_value 12 s) ≡ 9
