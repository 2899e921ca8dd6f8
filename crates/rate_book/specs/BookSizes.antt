-- The lengths of the values of a book that walks, as its rows give them.
use Rattle.std.specs.Prelude.{ℕ, ◌+◌, ◌≤◌, ◌≡◌, List, length}
use Rattle.tagged.specs.Find.{field_value, field_start}
use Rattle.field_values.specs.FactorLimits.{FactorBytes}

pub record BookSizes (s : List ℕ) : Type 0 where
  pub rate : length (field_value 2 s) ≡ 2
  pub figures : length (field_value 3 s) ≡ 40
  pub distribution : FactorBytes (field_value 4 s)
  pub transmission : FactorBytes (field_value 5 s)
  pub terms : length (field_value 6 s) ≡ 14
  pub charged : length (field_value 7 s) ≡ 3
  pub terms_within : field_start 6 s + 14 ≤ length s
