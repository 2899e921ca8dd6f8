-- What the stored form needs of a ledger and its table beyond soundness.
use Rattle.std.specs.Prelude.{ℕ, ◌^◌, ◌<◌, ◌≤◌, ◌≡◌, length}
use Rattle.ledger.specs.Limits.{most_schemes}
use Rattle.ledger.specs.Lists.{All}
use Rattle.ledger.specs.declared.records.Scheme.{Scheme}
use Rattle.ledger.specs.declared.records.Party.{Party}
use Rattle.calls.specs.Carried.{State, entries_on}

abbrev pub PersonFits : Party → Type 0
PersonFits party = party.person < 2 ^ 32

abbrev pub TermFits : Scheme → Type 0
TermFits scheme = scheme.term < 65536

-- `room` is the table's length
pub record Kept (room : ℕ) (state : State) : Type 0 where
  pub places : length state.ledger.schemes ≡ most_schemes
  pub month : state.ledger.month < 65536
  pub terms : All TermFits state.ledger.schemes
  pub persons : All PersonFits (entries_on state)
  pub in_places : state.ledger.count ≤ most_schemes
  pub in_table : state.ledger.entries ≤ length state.table
  pub as_long : length state.table ≡ room
