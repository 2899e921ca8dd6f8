-- What the calls on stored bytes and their check promise: document 01's number and values of the answer, whether the stored ledger itself is refused, and the
-- output. Refusals and schemes are numbered from 1, so that flag and ending tell the answer.
use Rattle.std.specs.Prelude.{ℕ, ◌≤◌, ◌≡◌, List, Err, Ok}
use Rattle.calls.specs.CallEnding.{Numbered}
use Rattle.stored_calls.specs.StoredCalls.{StoredCheck, StoredCallAnswer, CallEnd}
use Rattle.stored_calls.specs.StoredCallEnding.{stored_call_ending, of_stored_ledger, stored_check_ending, call_answer_in}

pub record StoredPromised (end : CallEnd) (answer : StoredCallAnswer) (output : List ℕ) : Type 0 where
  pub numbered : Numbered (call_answer_in answer)
  pub of_ledger : of_stored_ledger answer ≡ of_stored_ledger end.answer
  pub ends : stored_call_ending answer ≡ stored_call_ending end.answer
  pub output_after : output ≡ end.output

abbrev pub CheckNumbered : StoredCheck → Type 0
CheckNumbered (Err r) = 1 ≤ r.number
CheckNumbered (Ok counts) = Unit {0}

pub record CheckPromised (check answer : StoredCheck) : Type 0 where
  pub numbered : CheckNumbered answer
  pub ends : stored_check_ending answer ≡ stored_check_ending check
