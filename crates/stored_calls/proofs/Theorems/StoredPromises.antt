-- The calls on stored bytes and their check keep their promises, and by these their endings tell the answers.
use Rattle.std.specs.Prelude.{ℕ, ◌≡◌, List}
use Rattle.std.proofs.Common.{sym, ap, subst}
use Rattle.calls.specs.Decision.{Call}
use Rattle.calls.specs.CallEnding.{Numbered}
use Rattle.stored_calls.specs.StoredCalls.{StoredCheck, StoredCallAnswer, stored_call_of, new_stored_of, check_stored_of}
use Rattle.stored_calls.specs.StoredCallEnding.{stored_call_ending, of_stored_ledger, stored_check_ending, call_answer_in}
use Rattle.stored_calls.specs.StoredPromises.{StoredPromised, CheckNumbered, CheckPromised}
use Rattle.stored_calls.proofs.Theorems.StoredCallEnding.{stored_numbered, new_numbered, check_numbered, stored_by_ending, stored_check_by_ending}

module _ (file : List ℕ) (room : ℕ) (call : Call) (out : List ℕ) {answer : StoredCallAnswer} {output : List ℕ} where
  pub stored_promise : answer ≡ (stored_call_of file room call out).answer → output ≡ (stored_call_of file room call out).output →
      StoredPromised (stored_call_of file room call out) answer output
  stored_promise answers outputs =
      record {
        numbered = subst (λ (a : StoredCallAnswer). Numbered (call_answer_in a)) (sym answers) (stored_numbered file room call out);
        of_ledger = ap of_stored_ledger answers;
        ends = ap stored_call_ending answers;
        output_after = outputs;
      }

pub promised_stored : (file : List ℕ) (room : ℕ) (call : Call) (out : List ℕ) (answer : StoredCallAnswer) (output : List ℕ) →
    StoredPromised (stored_call_of file room call out) answer output → answer ≡ (stored_call_of file room call out).answer
promised_stored file room call out answer output promise =
    stored_by_ending answer (stored_call_of file room call out).answer promise.numbered (stored_numbered file room call out) promise.of_ledger promise.ends

module _ (out : List ℕ) {answer : StoredCallAnswer} {output : List ℕ} where
  pub new_promise : answer ≡ (new_stored_of out).answer → output ≡ (new_stored_of out).output → StoredPromised (new_stored_of out) answer output
  new_promise answers outputs =
      record {
        numbered = subst (λ (a : StoredCallAnswer). Numbered (call_answer_in a)) (sym answers) (new_numbered out);
        of_ledger = ap of_stored_ledger answers;
        ends = ap stored_call_ending answers;
        output_after = outputs;
      }

pub promised_new : (out : List ℕ) (answer : StoredCallAnswer) (output : List ℕ) → StoredPromised (new_stored_of out) answer output →
    answer ≡ (new_stored_of out).answer
promised_new out answer output promise =
    stored_by_ending answer (new_stored_of out).answer promise.numbered (new_numbered out) promise.of_ledger promise.ends

pub check_promise : (file : List ℕ) (room : ℕ) {answer : StoredCheck} → answer ≡ check_stored_of file room → CheckPromised (check_stored_of file room) answer
check_promise file room answers = record { numbered = subst CheckNumbered (sym answers) (check_numbered file room); ends = ap stored_check_ending answers }

pub promised_check : (file : List ℕ) (room : ℕ) (answer : StoredCheck) → CheckPromised (check_stored_of file room) answer → answer ≡ check_stored_of file room
promised_check file room answer promise =
    stored_check_by_ending answer (check_stored_of file room) promise.numbered (check_numbered file room) promise.ends
