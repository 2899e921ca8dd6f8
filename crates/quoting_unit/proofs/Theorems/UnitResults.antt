-- Document 01, 'How calls end', for a caller that looks at the result: it is 0 exactly where the call is done, and otherwise has the number of a refusal
-- that this call can come to.
use Rattle.std.specs.Prelude.{ℕ, ◌≤◌, ◌≡◌, refl, Bool, true, false, cond, List, [], ◌∷◌, ltb, length, Err, Ok}
use Rattle.std.proofs.Common.{ap, arith}
use Rattle.tagged.specs.File.{refusal}
use Rattle.tagged.specs.Refusals.{bespoke_not_allowed, output_too_short}
use Rattle.tagged.specs.declared.file.Refusal.{Refusal}
use Rattle.charge.specs.Price.{price_of, Pricing}
use Rattle.charge.proofs.Theorems.PriceRefusals.{pricing_refusal_numbers}
use Rattle.charge.specs.declared.Bill.{Bill}
use Rattle.ledger.specs.RefusalNumbers.{one_of, one_to}
use Rattle.ledger.specs.NumberLists.{Among}
use Rattle.ledger.proofs.Theorems.RefusalNumbers.{one_of_more, within_one_to, one_to_within}
use Rattle.slip_text.specs.Slip.{slip_of}
use Rattle.stored.specs.Moves as moves
use Rattle.stored.specs.RefusedWith.{RefusesWith}
use Rattle.stored.specs.StoredNumbers.{reading_numbers}
use Rattle.stored.specs.Writing.{Written}
use Rattle.stored.proofs.Theorems.MoveEnds.{move_refusal_numbers, move_back_refusal_numbers}
use Rattle.calls.specs.Decision.{Call, accept, pay_out, hand_over, clear}
use Rattle.stored_calls.specs.StoredCalls.{StoredCheck, StoredCallAnswer, not_read, not_made, made_accepted, made_done, new_stored_of, stored_call_of, check_stored_of}
use Rattle.stored_calls.specs.StoredRefusals.{is_made, stored_numbers}
use Rattle.stored_calls.specs.StoredRefuses.{StoredRefuses}
use Rattle.stored_calls.proofs.Theorems.StoredCalls.{StoredCheckRefuses, stored_refusal_numbers, check_refusal_numbers}
use Rattle.stored_calls.proofs.Theorems.StoredCallsRefusals.{new_refusal_numbers}
use Rattle.stored_calls.specs.declared.StoredCounts.{StoredCounts}
use Rattle.quoting_unit.specs.Interface.{last_number, result_of, number_in, outcome_of, Lent}
use Rattle.quoting_unit.specs.Unit.{UnitCall, price, slip_text, new_ledger, on_ledger, check_ledger, move_to_new, move_back, of_stored_file, move_ending, too_short, price_made, unit_slip_ending, unit_call_ending, check_ending, made, unit_call}
use Rattle.quoting_unit.proofs.Theorems.UnitBuffers.{leaves_if}
use Rattle.quoting_unit.proofs.Theorems.ResultParts.{number_told}
use Rattle.quoting_unit.specs.UnitResults.{Results, IsDone, pricing_numbers, check_numbers, refusals_of}

-- ---- by the case

-- numbers 1 to 16
abbrev pub InTable : List ℕ → Type 0
InTable refusals = Among refusals (one_to last_number)

pub is_done : {done : Type 0} {refusals : List ℕ} → done → Results done refusals 0
is_done h = record { done_gives_0 = λ _. refl; only_done_gives_0 = λ _. h; others_refuse = λ other. absurd (other refl); in_table = omega arith }

pub is_refused : {done : Type 0} {refusals : List ℕ} (r : Refusal) (of_ledger : ℕ) → InTable refusals → (done → ◌≡◌ {A = ℕ} 0 1) →
    one_of refusals r.number ≡ true → Results done refusals (result_of r of_ledger)
is_refused {refusals} r of_ledger numbers not_done told =
    let within = one_to_within last_number r.number (one_of_more refusals (one_to last_number) r.number numbers told) in
    let same : number_in (result_of r of_ledger) ≡ r.number = number_told r of_ledger (omega arith) in
    record {
      done_gives_0 = λ h. let z = not_done h in absurd (omega arith);
      only_done_gives_0 = λ e. let none : number_in (result_of r of_ledger) ≡ 0 = ap number_in e in absurd (omega arith);
      others_refuse = λ _. rw same told;
      in_table = rw same within.1;
    }

priced_results : (pricing : Pricing) (lent : Lent) → ((r : Refusal) → pricing ≡ Err r → (1 ≤ r.number) × (r.number ≤ bespoke_not_allowed)) →
    Results ((bill : Bill) × (pricing ≡ Ok bill)) pricing_numbers (outcome_of (price_made pricing lent).ending).result
priced_results (Ok bill) lent within = is_done (bill, refl)
priced_results (Err r) lent within =
    let both = within r refl in
    is_refused r 0 refl (λ d. cc d.1)
    (one_of_more (one_to bespoke_not_allowed) pricing_numbers r.number refl (within_one_to bespoke_not_allowed r.number both.0 both.1))

slip_results : (short : Bool) (size : ℕ) →
    let written = cond short (Err (refusal output_too_short 0 0)) (Ok size) in
    Results ((length : ℕ) × (written ≡ Ok length)) (output_too_short ∷ []) (outcome_of (unit_slip_ending written)).result
slip_results true size = is_refused (refusal output_too_short 0 0) 0 refl (λ d. cc d.1) refl
slip_results false size = is_done (size, refl)

-- a call on a stored ledger is done where it was made
stored_results : {refusals : List ℕ} (told : StoredCallAnswer) → InTable refusals → StoredRefuses refusals told →
    Results (is_made told ≡ true) refusals (outcome_of (unit_call_ending told)).result
stored_results (not_read r) numbers h = is_refused r 1 numbers (λ d. cc d) h
stored_results (not_made r) numbers h = is_refused r 0 numbers (λ d. cc d) h
stored_results (made_accepted acceptance size) numbers h = is_done refl
stored_results (made_done size) numbers h = is_done refl

ledger_results : (stored : List ℕ) (table_size : ℕ) (call : Call) (lent : Lent) → InTable (stored_numbers call) →
    Results (IsDone (on_ledger stored table_size call) lent) (stored_numbers call) (outcome_of (made (on_ledger stored table_size call) lent).ending).result
ledger_results stored table_size call lent numbers =
    stored_results (stored_call_of stored table_size call lent.output).answer numbers (stored_refusal_numbers stored table_size call lent.output)

checked_results : (told : StoredCheck) → StoredCheckRefuses reading_numbers told →
    Results ((counts : StoredCounts) × (told ≡ Ok counts)) check_numbers (outcome_of (check_ending told)).result
checked_results (Err r) h =
    is_refused r 1 refl (λ d. cc d.1) (one_of_more reading_numbers check_numbers r.number refl h)
checked_results (Ok counts) h = is_done (counts, refl)

move_results : {refusals : List ℕ} (written : Written) → InTable refusals → RefusesWith refusals written →
    Results ((size : ℕ) × (written ≡ Ok size)) refusals (outcome_of (move_ending written)).result
move_results (Ok size) numbers h = is_done (size, refl)
move_results (Err r) numbers h = is_refused r (of_stored_file r.number) numbers (λ d. cc d.1) h

-- ---- every call
made_results : (call : UnitCall) (lent : Lent) → Results (IsDone call lent) (refusals_of call) (outcome_of (made call lent).ending).result
made_results (price book request) lent = priced_results (price_of book request) lent (pricing_refusal_numbers book request)
made_results (slip_text book request) lent =
    let slip = slip_of (price_of book request) in
    slip_results (ltb (length lent.output) (length slip)) (length slip)
made_results new_ledger lent = stored_results (new_stored_of lent.output).answer refl (new_refusal_numbers lent.output)
made_results (on_ledger stored table_size (accept book request)) lent = ledger_results stored table_size (accept book request) lent refl
made_results (on_ledger stored table_size (pay_out entry amount)) lent = ledger_results stored table_size (pay_out entry amount) lent refl
made_results (on_ledger stored table_size (hand_over entry person)) lent = ledger_results stored table_size (hand_over entry person) lent refl
made_results (on_ledger stored table_size (clear month)) lent = ledger_results stored table_size (clear month) lent refl
made_results (move_to_new file) lent = move_results (moves.move_to_new file lent.output).answer refl (move_refusal_numbers file lent.output)
made_results (move_back file) lent = move_results (moves.move_back file lent.output).answer refl (move_back_refusal_numbers file lent.output)
made_results (check_ledger stored table_size) lent = checked_results (check_stored_of stored table_size) (check_refusal_numbers stored table_size)

in_table_with_14 : (call : UnitCall) → InTable (refusals_of call) × (one_of (refusals_of call) output_too_short ≡ true)
in_table_with_14 (price book request) = (refl, refl)
in_table_with_14 (slip_text book request) = (refl, refl)
in_table_with_14 new_ledger = (refl, refl)
in_table_with_14 (on_ledger stored table_size (accept book request)) = (refl, refl)
in_table_with_14 (on_ledger stored table_size (pay_out entry amount)) = (refl, refl)
in_table_with_14 (on_ledger stored table_size (hand_over entry person)) = (refl, refl)
in_table_with_14 (on_ledger stored table_size (clear month)) = (refl, refl)
in_table_with_14 (check_ledger stored table_size) = (refl, refl)
in_table_with_14 (move_to_new file) = (refl, refl)
in_table_with_14 (move_back file) = (refl, refl)

pub unit_results : (call : UnitCall) (lent : Lent) →
    Results ((too_short call lent ≡ false) × IsDone call lent) (refusals_of call) (unit_call call lent).result
unit_results call lent = by (too_short call lent)
  where
    by : (short : Bool) → Results ((short ≡ false) × IsDone call lent) (refusals_of call) (leaves_if call lent short).result
    by true = is_refused (refusal output_too_short 0 0) 0 (in_table_with_14 call).0 (λ d. cc d.0) (in_table_with_14 call).1
    by false =
        let h = made_results call lent in
        record {
          done_gives_0 = λ d. h.done_gives_0 d.1;
          only_done_gives_0 = λ e. (refl, h.only_done_gives_0 e);
          others_refuse = h.others_refuse;
          in_table = h.in_table;
        }
