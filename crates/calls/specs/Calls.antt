-- Each call on a ledger and its table: what it answers and leaves, its promise, and the traces of calls made one after the other.
use Rattle.std.specs.Prelude.{◌^◌, ◌<◌, ◌≡◌, List, [], ◌∷◌, cond, length}
use Rattle.numbers.specs.BigEndian.{Bytes}
use Rattle.tagged.specs.File.{refusal}
use Rattle.tagged.specs.Refusals.{ledger_unsound}
use Rattle.ledger.specs.Sound.{sound}
use Rattle.ledger.specs.declared.records.Party.{Party}
use Rattle.ledger.specs.declared.records.Ledger.{Ledger}
use Rattle.calls.specs.Decision.{Call, accept, pay_out, hand_over, clear, Decision, refused, decided, CallAnswer, answer_to}
use Rattle.calls.specs.Carried.{State, books_on, carried_out}
use Rattle.calls.specs.CallEnding.{call_ending, Numbered}

abbrev pub state_of : Ledger → List Party → State
state_of ledger table = record { ledger = ledger; table = table }

-- 13 comes before everything else: "ledger unsound, or table shorter than its entries"
abbrev pub decided_on : State → Call → Decision
decided_on state call =
    cond (sound state.ledger state.table (length state.table)) (decided (books_on state) call) (refused (refusal ledger_unsound 0 0))

unfoldable pub answered : State → Call → CallAnswer
answered state call = answer_to (books_on state) (decided_on state call)

unfoldable pub leaves : State → Call → State
leaves state call = carried_out state (decided_on state call)

-- What every call promises: document 01's number and values of its answer, and ledger and table. Refusals and schemes are numbered from 1, so that the
-- ending tells the answer.
pub record Promised (before : State) (call : Call) (answer : CallAnswer) (after : State) : Type 0 where
  pub numbered : Numbered answer
  pub ends : call_ending answer ≡ call_ending (answered before call)
  pub leaving : after ≡ leaves before call

-- calls made one after the other
pub data Trace : State → List Call → List CallAnswer → State → Type 0 where
  none : {state : State} → Trace state [] [] state
  more : {before between after : State} {call : Call} {calls : List Call} {answer : CallAnswer} {answers : List CallAnswer} →
      Promised before call answer between → Trace between calls answers after → Trace before (call ∷ calls) (answer ∷ answers) after

-- the widths of what is handed over
abbrev pub Fits : Call → Type 0
Fits (accept book request) = Bytes book × Bytes request
Fits (pay_out entry amount) = (entry < 2 ^ 32) × (amount < 2 ^ 64)
Fits (hand_over entry person) = (entry < 2 ^ 32) × (person < 2 ^ 32)
Fits (clear month) = month < 2 ^ 16

abbrev pub AllFit : List Call → Type 0
AllFit [] = Unit {0}
AllFit (call ∷ calls) = Fits call × AllFit calls
