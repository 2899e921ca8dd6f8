-- A result that gives a refusal when it is taken apart: its number, its file, whether it is of the stored ledger itself, and its place.
use Rattle.std.specs.Prelude.{ℕ, ◌≤◌, ◌≡◌}
use Rattle.tagged.specs.declared.file.Refusal.{Refusal}
use Rattle.quoting_unit.specs.Interface.{highest_place, number_in, file_in, of_ledger_in, place_in}

pub record ResultParts (r : Refusal) (of_ledger result : ℕ) : Type 0 where
  pub number : number_in result ≡ r.number
  pub file : file_in result ≡ r.file
  pub of_ledger_is : of_ledger_in result ≡ of_ledger
  -- no file is longer
  pub place : r.place ≤ highest_place → place_in result ≡ r.place
