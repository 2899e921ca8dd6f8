-- The laws that the functions of src/ are there for, one statement each; the proofs stand in proofs/.
use Rattle.std.specs.Prelude.{ℕ, ◌≤◌, ◌≡◌, List, [], length, take, Ok}
use Rattle.ledger.specs.Records.{no_parties, new_ledger}
use Rattle.ledger.specs.Lists.{at_start}
use Rattle.calls.specs.Decision.{Call, CallAnswer}
use Rattle.calls.specs.Calls.{AllFit}
use Rattle.stored.specs.Form.{stored_form, shortest_form, longest_form}
use Rattle.stored.specs.declared.form.Form.TheVariants.{Pio2}
use Rattle.stored_calls.specs.StoredCalls.{stored_read, made_done, new_stored_of}
use Rattle.history.specs.History.{ledger_in, parties_in, history_of}
use Rattle.stored_history.specs.StoredDemandThree.{StoredTrace}

-- after every list the next call reads what the history comes to: no call is refused for the stored ledger itself
abbrev pub KeptReadsBack : Type 0
KeptReadsBack =
    (room : ℕ) (calls : List Call) (answers : List CallAnswer) (after : List ℕ) → AllFit calls →
    StoredTrace room (stored_form Pio2 new_ledger []) calls answers after →
    let start = take room no_parties in
    let history = history_of (length start) calls in
    stored_read after room ≡ record { answer = Ok tt; ledger = ledger_in history; table = at_start (parties_in history) start }

-- every list of calls has such a trace, from any bytes and with any output that has room for the longest form
abbrev pub StoredTraceExists : Type 0
StoredTraceExists =
    (room : ℕ) (kept : List ℕ) (calls : List Call) (output : List ℕ) → longest_form Pio2 ≤ length output →
    (answers : List CallAnswer) × (after : List ℕ) × StoredTrace room kept calls answers after

-- what a new ledger's call writes is the form that a list of calls starts from
abbrev pub NewStoredKept : Type 0
NewStoredKept =
    (output : List ℕ) → shortest_form Pio2 ≤ length output →
    ((new_stored_of output).answer ≡ made_done (shortest_form Pio2)) × (take (shortest_form Pio2) (new_stored_of output).output ≡ stored_form Pio2 new_ledger [])
