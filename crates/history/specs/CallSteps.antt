-- A decision, recorded in a history and carried out on the state that shows it.
use Rattle.std.specs.Prelude.{◌≡◌, List, length}
use Rattle.ledger.specs.declared.records.Party.{Party}
use Rattle.calls.specs.Decision.{Decision}
use Rattle.calls.specs.Carried.{carried_out}
use Rattle.history.specs.History.{History, recorded}
use Rattle.history.specs.ShownState.{state_in, HistoryStands}

pub record Step (table : List Party) (h : History) (decision : Decision) : Type 0 where
  pub stands : HistoryStands (length table) (recorded h decision)
  pub shows : carried_out (state_in table h) decision ≡ state_in table (recorded h decision)
