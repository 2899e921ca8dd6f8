-- An entry that has its place in the table.
use Rattle.std.specs.Prelude.{ℕ, ◌≡◌, get_or, Some}
use Rattle.ledger.specs.Records.{no_party}
use Rattle.ledger.specs.Books.{EntryParticulars, entry_particulars}
use Rattle.ledger.specs.EntryPlace.{entry_place}
use Rattle.calls.specs.Carried.{State, entries_on}

-- ---- an entry that the books show, by its place
pub record EntryPlaced (state : State) (row : EntryParticulars) : Type 0 where
  pub place : ℕ
  pub placed : entry_place row.number (entries_on state) ≡ Some place
  pub shown : row ≡ entry_particulars (get_or (entries_on state) place no_party)
