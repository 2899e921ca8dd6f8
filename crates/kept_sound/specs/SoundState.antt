-- A sound ledger with its table, and what the steps of a call ask of it.
use Rattle.std.specs.Prelude.{ℕ, ◌+◌, ◌<◌, ◌≤◌, ◌≡◌, List, length}
use Rattle.charge.specs.declared.Bill.{Bill}
use Rattle.ledger.specs.Limits.{most_schemes, most_entries, highest_next_scheme, highest_next_entry}
use Rattle.ledger.specs.SoundConditions.{SoundLedger}
use Rattle.ledger.specs.declared.records.Scheme.{Scheme}
use Rattle.calls.specs.Carried.{State}
use Rattle.calls.specs.VerdictConditions.{PaysAt}
use Rattle.calls.specs.declared.courses.Joining.{Joining}
use Rattle.calls.specs.declared.courses.Joining.TheVariants.{NotAsked, Ended, Small, Pays}

abbrev pub SoundState : State → Type 0
SoundState state = SoundLedger state.ledger state.table (length state.table)

-- sound, and with a place for each of the 64 schemes
pub record WholeState (state : State) : Type 0 where
  pub places : length state.ledger.schemes ≡ most_schemes
  pub sound : SoundState state

-- so many entries more fit, and so many numbers may be given
pub record RoomFor (needed : ℕ) (state : State) : Type 0 where
  pub limit : state.ledger.entries + needed ≤ most_entries
  pub in_table : state.ledger.entries + needed ≤ length state.table
  pub numbers : state.ledger.next_entry + needed ≤ highest_next_entry state.ledger.connections

-- a scheme more has its place and its number
pub record PlaceLeft (state : State) : Type 0 where
  pub place : state.ledger.count < most_schemes
  pub number : state.ledger.next_scheme < highest_next_scheme

-- what a joining needs of the schemes that stand: of a joiner that pays its scheme's place, its fee, at least its minimum and at most its cost
abbrev pub Joinable : List Scheme → Bill → Joining → Type 0
Joinable schemes bill NotAsked = Unit {0}
Joinable schemes bill Ended = Unit {0}
Joinable schemes bill Small = Unit {0}
Joinable schemes bill (Pays paid) = PaysAt schemes bill paid
