-- Demand 3 for a ledger that is kept as its stored bytes: each call reads the bytes kept, and what a done call has written is kept after it.
use Rattle.std.specs.Prelude.{ℕ, ◌≤◌, ◌≡◌, List, [], ◌∷◌, length, take}
use Rattle.ledger.specs.Records.{no_parties, new_ledger}
use Rattle.calls.specs.Decision.{Call, CallAnswer}
use Rattle.ledger.specs.Lists.{at_start}
use Rattle.calls.specs.Calls.{state_of, AllFit}
use Rattle.stored.specs.Form.{stored_form, longest_form}
use Rattle.stored.specs.declared.form.Form.TheVariants.{Pio2}
use Rattle.stored_calls.specs.StoredCalls.{StoredCallAnswer, not_read, not_made, made_accepted, made_done, CallEnd, stored_call_of}
use Rattle.stored_calls.specs.StoredCallEnding.{call_answer_in}
use Rattle.history.specs.History.{ledger_in, parties_in, history_of}
use Rattle.history.specs.DemandThree.{HoldsAfter}

-- the bytes that are kept after a call: what a done call has written, or those before it
abbrev pub kept_after : StoredCallAnswer → (output before : List ℕ) → List ℕ
kept_after (not_read r) output before = before
kept_after (not_made r) output before = before
kept_after (made_accepted acceptance size) output before = take size output
kept_after (made_done size) output before = take size output

-- one call on the bytes kept, read into a table of so many records, with a lent output
pub record StoredStep : Type 0 where
  pub answer : CallAnswer
  pub kept : List ℕ

abbrev pub step_by : CallEnd → List ℕ → StoredStep
step_by end before = record { answer = call_answer_in end.answer; kept = kept_after end.answer end.output before }

abbrev pub stored_step : (room : ℕ) (kept : List ℕ) → Call → (output : List ℕ) → StoredStep
stored_step room kept call output = step_by (stored_call_of kept room call output) kept

-- calls made one after the other, each with an output that has room for the longest form, 20,997 bytes
pub data StoredTrace (room : ℕ) : List ℕ → List Call → List CallAnswer → List ℕ → Type 0 where
  none : {kept : List ℕ} → StoredTrace room kept [] [] kept
  more : {before between after : List ℕ} {call : Call} {calls : List Call} {answer : CallAnswer} {answers : List CallAnswer} (output : List ℕ) →
      longest_form Pio2 ≤ length output → stored_step room before call output ≡ record { answer = answer; kept = between } →
      StoredTrace room between calls answers after → StoredTrace room before (call ∷ calls) (answer ∷ answers) after

-- For every length of the table, every list of calls from a new ledger's form and every output lent to them, whatever they answered: the bytes kept are
-- the form of what the history of the calls comes to, of which demand 3 holds. The table is made anew from the bytes at each call, so that nothing is said of
-- records past the last entry.
abbrev pub EveryListOfStoredCalls : Type 0
EveryListOfStoredCalls =
    (room : ℕ) (calls : List Call) (answers : List CallAnswer) (after : List ℕ) → AllFit calls →
    StoredTrace room (stored_form Pio2 new_ledger []) calls answers after →
    let start = take room no_parties in
    let history = history_of (length start) calls in
    (after ≡ stored_form Pio2 (ledger_in history) (parties_in history))
    × HoldsAfter (length start) history calls answers (state_of (ledger_in history) (at_start (parties_in history) start))
