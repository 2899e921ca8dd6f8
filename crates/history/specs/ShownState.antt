-- A ledger and its table that show a history.
use Rattle.std.specs.Prelude.{ℕ, ◌≤◌, ◌≡◌, List, true, length}
use Rattle.ledger.specs.Limits.{most_schemes, most_entries}
use Rattle.ledger.specs.Sound.{sound}
use Rattle.ledger.specs.declared.records.Party.{Party}
use Rattle.calls.specs.Carried.{State}
use Rattle.ledger.specs.Lists.{at_start}
use Rattle.calls.specs.Calls.{state_of}
use Rattle.history.specs.History.{History, openings, ledger_in, parties_in}
use Rattle.history.specs.SoundHistory.{SoundHistory}

-- the ledger and the table that show a history, over this table: past the entries that the history comes to, what stands there
abbrev pub state_in : List Party → History → State
state_in table h = state_of (ledger_in h) (at_start (parties_in h) table)

-- "up to 64 schemes"; entries "at most 512 and at most the table's length"
pub record CountsWithin (room : ℕ) (h : History) : Type 0 where
  pub schemes_limit : length (openings h.entered) ≤ most_schemes
  pub entries_limit : length h.entered ≤ most_entries
  pub in_table : length h.entered ≤ room

pub record HistoryStands (room : ℕ) (h : History) : Type 0 where
  pub sound : SoundHistory h
  pub within : CountsWithin room h

pub record ShownState (room : ℕ) (h : History) (state : State) : Type 0 where
  pub shows : state ≡ state_in state.table h
  pub long : length state.table ≡ room
  pub history : HistoryStands room h
  pub stands : sound state.ledger state.table (length state.table) ≡ true
