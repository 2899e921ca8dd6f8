-- The calls on the first records of an array: what they need, and what they promise.
use Rattle.std.specs.Prelude.{ℕ, ◌≡◌, List, true, length, take, drop}
use Rattle.ledger.specs.Sound.{sound}
use Rattle.ledger.specs.declared.records.Party.{Party}
use Rattle.ledger.specs.declared.records.Ledger.{Ledger}
use Rattle.calls.specs.Decision.{Call, CallAnswer}
use Rattle.calls.specs.Calls.{state_of, Promised}

-- the table is the first `room` records, or all of them
abbrev pub SoundOnRecords : ℕ → Ledger → List Party → Type 0
SoundOnRecords room ledger parties = sound ledger (take room parties) (length (take room parties)) ≡ true

-- the records past the table stay as they are
pub record PromisedOnRecords (room : ℕ) (ledger : Ledger) (parties : List Party) (call : Call) (answer : CallAnswer) (after : Ledger) (left : List Party) : Type 0 where
  pub promised : Promised (state_of ledger (take room parties)) call answer (state_of after (take room left))
  pub past : drop room left ≡ drop room parties
