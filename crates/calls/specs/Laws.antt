-- The laws that the functions of src/laws.rt are there for, one statement each; the proofs stand in proofs/.
use Rattle.std.specs.Prelude.{◌≡◌, List, length, take}
use Rattle.tagged.specs.EndingTests.{number_is_0}
use Rattle.ledger.specs.declared.records.Party.{Party}
use Rattle.ledger.specs.declared.records.Ledger.{Ledger}
use Rattle.calls.specs.Decision.{Call, CallAnswer}
use Rattle.calls.specs.Carried.{State, entries_on}
use Rattle.calls.specs.CallEnding.{call_ending}
use Rattle.calls.specs.CallEndingTests.{not_refused}
use Rattle.calls.specs.Calls.{state_of, answered, leaves, Promised}

-- number 0 exactly where a call is done
abbrev pub CallByNumber : Type 0
CallByNumber = (state : State) (call : Call) → number_is_0 (call_ending (answered state call)) ≡ not_refused (answered state call)

-- two different answers never end alike, whichever calls these are
abbrev pub CallByEnding : Type 0
CallByEnding =
    (state other : State) (call next : Call) → call_ending (answered state call) ≡ call_ending (answered other next) →
    answered state call ≡ answered other next

-- so the ending that a call promises tells its answer
abbrev pub PromisedAnswer : Type 0
PromisedAnswer = (before : State) (call : Call) (answer : CallAnswer) (after : State) → Promised before call answer after → answer ≡ answered before call

-- An answer depends on the table by its entries and its length alone, and so do the ledger and the entries that are left.
pub record SameByEntries (state other : State) (call : Call) : Type 0 where
  pub answer : answered state call ≡ answered other call
  pub ledger : (leaves state call).ledger ≡ (leaves other call).ledger
  pub entries : entries_on (leaves state call) ≡ entries_on (leaves other call)

abbrev pub ByEntries : Type 0
ByEntries =
    (ledger : Ledger) (table other : List Party) (call : Call) → take ledger.entries table ≡ take ledger.entries other → length table ≡ length other →
    SameByEntries (state_of ledger table) (state_of ledger other) call
