-- A promise is by the answer's ending, which tells the answer; and it can be kept.
use Rattle.std.specs.Prelude.{◌≡◌, refl, false, length}
use Rattle.std.proofs.Common.{sym, ap, subst}
use Rattle.tagged.specs.File.{refusal}
use Rattle.tagged.specs.Refusals.{ledger_unsound}
use Rattle.ledger.specs.Sound.{sound}
use Rattle.calls.specs.Decision.{Call, CallAnswer, is_refused}
use Rattle.calls.specs.Carried.{State}
use Rattle.calls.specs.CallEnding.{call_ending, Numbered}
use Rattle.calls.specs.Calls.{answered, leaves, Promised}
use Rattle.calls.proofs.Theorems.CallEnding.{answered_numbered, answer_by_ending}

pub promised_answers : (before : State) (call : Call) (answer : CallAnswer) (after : State) → Promised before call answer after → answer ≡ answered before call
promised_answers before call answer after promise =
    answer_by_ending answer (answered before call) promise.numbered (answered_numbered before call) promise.ends

pub promise_from : {before : State} {call : Call} {answer : CallAnswer} {after : State} → answer ≡ answered before call → after ≡ leaves before call →
    Promised before call answer after
promise_from {before} {call} answers leaving =
    record { numbered = subst Numbered (sym answers) (answered_numbered before call); ends = ap call_ending answers; leaving = leaving }

-- 13, whatever the call
pub unsound_promised : (state : State) (call : Call) → sound state.ledger state.table (length state.table) ≡ false →
    Promised state call (is_refused (refusal ledger_unsound 0 0)) state
unfolding answered leaves
unsound_promised state call unsound = promise_from (rw unsound) (rw unsound)

pub promise_kept : (before : State) (call : Call) → Promised before call (answered before call) (leaves before call)
promise_kept before call = promise_from refl refl
