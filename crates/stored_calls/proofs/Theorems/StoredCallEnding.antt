-- The endings tell the answers: done or refused by the number, and two different answers never end alike.
use Rattle.std.specs.Prelude.{ℕ, ◌≡◌, refl, List, Bool, true, false, pos, nat_abs, get_or, drop, length, Err, Ok}
use Rattle.std.proofs.Common.{sym, ap, ◌∙◌}
use Rattle.tagged.specs.Ending.{Ending}
use Rattle.tagged.specs.EndingTests.{number_is_0}
use Rattle.tagged.proofs.Theorems.Ending.{refused_by_number, refused_not_done, refusal_by_ending}
use Rattle.tagged.specs.File.{FileAnswer}
use Rattle.ledger.specs.Records.{no_parties, new_ledger}
use Rattle.ledger.proofs.Theorems.RefusalNumbers.{one_of_positive}
use Rattle.calls.specs.Decision.{Call, CallAnswer, is_accepted, is_done, is_refused}
use Rattle.calls.specs.Calls.{state_of, answered, leaves}
use Rattle.calls.specs.CallEnding.{call_ending}
use Rattle.calls.specs.CallEnding.{Numbered}
use Rattle.calls.proofs.Theorems.CallEnding.{answered_numbered, answer_by_ending}
use Rattle.stored.specs.StoredNumbers.{reading_numbers}
use Rattle.stored.specs.RefusedWith.{ReadRefuses}
use Rattle.stored.proofs.Theorems.StoredEnding.{read_numbered, write_numbered}
use Rattle.stored.specs.Promises.{WriteNumbered}
use Rattle.stored.specs.Writing.{WriteEnd, write_of, Written}
use Rattle.stored_calls.specs.StoredCalls.{StoredCheck, StoredCallAnswer, not_read, not_made, made_accepted, made_done, stored_read, written_answer, end_by, once_read, stored_call_of, new_stored_of, check_stored_of}
use Rattle.stored_calls.specs.declared.StoredCounts.{StoredCounts}
use Rattle.stored_calls.specs.StoredPromises.{CheckNumbered}
use Rattle.stored_calls.specs.StoredRefusals.{is_made}
use Rattle.stored_calls.proofs.Theorems.StoredCalls.{stored_read_refuses, StoredCheckRefuses, check_refusal_numbers}
use Rattle.stored_calls.specs.StoredCallEnding.{stored_call_ending, of_stored_ledger, stored_check_ending, call_answer_in, is_sound}

written_numbered : (told : ℕ → StoredCallAnswer) → ((size : ℕ) → Numbered (call_answer_in (told size))) → (written : Written) → WriteNumbered written →
    Numbered (call_answer_in (written_answer told written))
written_numbered told tells (Ok size) numbered = tells size
written_numbered told tells (Err r) numbered = numbered

end_numbered : (answer : CallAnswer) (written : WriteEnd) (out : List ℕ) → Numbered answer → WriteNumbered written.answer →
    Numbered (call_answer_in (end_by answer written out).answer)
end_numbered (is_accepted acceptance) written out opened numbered = written_numbered (made_accepted acceptance) (λ size. opened) written.answer numbered
end_numbered is_done written out done numbered = written_numbered made_done (λ size. tt) written.answer numbered
end_numbered (is_refused r) written out refused numbered = refused

pub stored_numbered : (file : List ℕ) (room : ℕ) (call : Call) (out : List ℕ) → Numbered (call_answer_in (stored_call_of file room call out).answer)
stored_numbered file room call out = by (stored_read file room).answer (stored_read_refuses file room)
  where
    by : (answer : FileAnswer) → ReadRefuses answer →
        Numbered (call_answer_in (once_read answer (state_of (stored_read file room).ledger (stored_read file room).table) call out).answer)
    by (Ok _) reads =
        let state = state_of (stored_read file room).ledger (stored_read file room).table in
        let after = leaves state call in
        end_numbered (answered state call) (write_of after.ledger after.table out) out (answered_numbered state call)
        (write_numbered after.ledger after.table (length after.table) out)
    by (Err r) reads = read_numbered (Err r) reads

pub new_numbered : (out : List ℕ) → Numbered (call_answer_in (new_stored_of out).answer)
new_numbered out =
    written_numbered made_done (λ size. tt) (write_of new_ledger no_parties out).answer (write_numbered new_ledger no_parties (length no_parties) out)

-- ---- number 0 exactly where the call is made, and where the ledger is read
made_by_number : (answer : StoredCallAnswer) → Numbered (call_answer_in answer) → number_is_0 (stored_call_ending answer) ≡ is_made answer
made_by_number (not_read r) numbered = refused_by_number r numbered
made_by_number (not_made r) numbered = refused_by_number r numbered
made_by_number (made_accepted acceptance size) numbered = refl
made_by_number (made_done size) numbered = refl

pub stored_by_number : (file : List ℕ) (room : ℕ) (call : Call) (out : List ℕ) →
    let answer = (stored_call_of file room call out).answer in
    number_is_0 (stored_call_ending answer) ≡ is_made answer
stored_by_number file room call out = made_by_number (stored_call_of file room call out).answer (stored_numbered file room call out)

pub new_by_number : (out : List ℕ) → number_is_0 (stored_call_ending (new_stored_of out).answer) ≡ is_made (new_stored_of out).answer
new_by_number out = made_by_number (new_stored_of out).answer (new_numbered out)

pub check_numbered : (file : List ℕ) (room : ℕ) → CheckNumbered (check_stored_of file room)
check_numbered file room = by (check_stored_of file room) (check_refusal_numbers file room)
  where
    by : (check : StoredCheck) → StoredCheckRefuses reading_numbers check → CheckNumbered check
    by (Err r) told = one_of_positive reading_numbers r.number refl told
    by (Ok counts) told = tt

pub check_by_number : (file : List ℕ) (room : ℕ) → number_is_0 (stored_check_ending (check_stored_of file room)) ≡ is_sound (check_stored_of file room)
check_by_number file room = by (check_stored_of file room) (check_numbered file room)
  where
    by : (check : StoredCheck) → CheckNumbered check → number_is_0 (stored_check_ending check) ≡ is_sound check
    by (Err r) numbered = refused_by_number r numbered
    by (Ok counts) numbered = refl

-- ---- flag and ending tell the answer, whichever calls these are

-- the call's own ending, and the new form's length
abbrev without_length : Ending → Ending
without_length ending = record { number = ending.number; file = ending.file; place = ending.place; values = drop 1 ending.values }

abbrev length_in : Ending → ℕ
length_in ending = nat_abs (get_or ending.values 0 (pos 0))

call_ending_lem : (answer : StoredCallAnswer) → without_length (stored_call_ending answer) ≡ call_ending (call_answer_in answer)
call_ending_lem (not_read r) = refl
call_ending_lem (not_made r) = refl
call_ending_lem (made_accepted acceptance size) = refl
call_ending_lem (made_done size) = refl

abbrev answer_from : Bool → CallAnswer → ℕ → StoredCallAnswer
answer_from flag (is_accepted acceptance) size = made_accepted acceptance size
answer_from flag is_done size = made_done size
answer_from true (is_refused r) size = not_read r
answer_from false (is_refused r) size = not_made r

answer_from_lem : (answer : StoredCallAnswer) → answer_from (of_stored_ledger answer) (call_answer_in answer) (length_in (stored_call_ending answer)) ≡ answer
answer_from_lem (not_read r) = refl
answer_from_lem (not_made r) = refl
answer_from_lem (made_accepted acceptance size) = refl
answer_from_lem (made_done size) = refl

pub stored_by_ending : (answer other : StoredCallAnswer) → Numbered (call_answer_in answer) → Numbered (call_answer_in other) →
    of_stored_ledger answer ≡ of_stored_ledger other → stored_call_ending answer ≡ stored_call_ending other → answer ≡ other
stored_by_ending answer other numbered others flags e =
    let call : call_answer_in answer ≡ call_answer_in other =
    answer_by_ending (call_answer_in answer) (call_answer_in other) numbered others (sym (call_ending_lem answer) ∙ ap without_length e ∙ call_ending_lem other) in
    sym (answer_from_lem answer) ∙ (λ i. answer_from (flags i) (call i) (length_in (e i))) ∙ answer_from_lem other

-- ---- the ending tells the check of a stored ledger
abbrev counts_from : Ending → StoredCounts
counts_from ending =
    let value : ℕ → ℕ = λ place. nat_abs (get_or ending.values place (pos 0)) in
    record { month = value 0; connections = value 1; charged = value 2; borne = value 3; schemes = value 4; entries = value 5 }

pub stored_check_by_ending : (check other : StoredCheck) → CheckNumbered check → CheckNumbered other → stored_check_ending check ≡ stored_check_ending other →
    check ≡ other
stored_check_by_ending (Err r) (Err s) numbered others e = ap Err (refusal_by_ending r s e)
stored_check_by_ending (Err r) (Ok other) numbered others e = absurd (refused_not_done r _ numbered e)
stored_check_by_ending (Ok counts) (Err s) numbered others e = absurd (refused_not_done s _ others (sym e))
stored_check_by_ending (Ok counts) (Ok other) numbered others e = ap (λ (ending : Ending). Ok (counts_from ending)) e

pub check_by_ending : (file other_file : List ℕ) (room other_room : ℕ) →
    stored_check_ending (check_stored_of file room) ≡ stored_check_ending (check_stored_of other_file other_room) →
    check_stored_of file room ≡ check_stored_of other_file other_room
check_by_ending file other_file room other_room = stored_check_by_ending _ _ (check_numbered file room) (check_numbered other_file other_room)
