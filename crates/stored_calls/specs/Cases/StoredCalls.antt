-- A new ledger's bytes, and the first calls on them. The table's length, where it makes the answer 9, and one record more.
use Rattle.std.specs.Prelude.{ℕ, ◌≡◌, refl, replicate, None, Ok, Option, Some, Err}
use Rattle.std.proofs.Common.{ap}
use mathlib.Core.List.{List, [], ◌∷◌, ◌++◌, flat_map}
use Rattle.numbers.specs.BigEndian.{number, bytes_of}
use Rattle.numbers.specs.Check.{check_from}
use Rattle.field_walk.specs.Walk.{due_from, all_had, front_of, walk_from}
use Rattle.tagged.specs.Find.{fields_from, first_with, fields_with}
use Rattle.tagged.specs.File.{refusal}
use Rattle.field_values.specs.Judged.{same_bytes}
use Rattle.reconciliation.specs.Reconciliation.{reconciliation_of}
use Rattle.charge.specs.Price.{price_of, Pricing}
use Rattle.charge.specs.declared.Bill.{Bill}
use Rattle.ledger.specs.Records.{no_parties, new_ledger}
use Rattle.ledger.specs.Columns.{sum_over, first_put_in}
use Rattle.ledger.specs.Sound.{parties_sound, schemes_sound, all_zero, rise_to, sound_numbers, sound_figures, sound}
use Rattle.ledger.specs.Lookup.{place_of}
use Rattle.calls.specs.Verdict.{verdict}
use Rattle.calls.specs.Decision.{accept, pay_out, hand_over, clear, accept_by, answer_to}
use Rattle.calls.specs.Carried.{State, books_on, carried_out}
use Rattle.calls.specs.Calls.{state_of, answered, leaves}
use Rattle.calls.specs.declared.answers.JoiningAnswer.{JoiningAnswer}
use Rattle.calls.specs.declared.answers.JoiningAnswer.TheVariants.{NotAsked, Ended, Joined}
use Rattle.stored.specs.Layout.{record_bytes, values_at}
use Rattle.stored.specs.Form.{scheme_parts, party_parts, stored_form, stored_schemes, stored_entries, no_schemes, stored_ledger}
use Rattle.stored.specs.Writing.{written_answer, write_of}
use Rattle.stored.specs.Reading.{table_answer, read_answer}
use Rattle.stored.specs.Cases.Stored.{new_form, one_form, joined_form, joined_scheme, form_with}
use Rattle.stored.specs.Cases.Moves.{cleared_form}
use Rattle.stored_calls.specs.StoredCalls.{StoredCallAnswer, not_read, not_made, made_accepted, made_done, stored_read, end_by, stored_call_of, counts_of, new_stored_of, check_stored_of}

-- an output as long as the form, and one byte shorter
pub new_cases_hold :
    (new_stored_of (replicate 69 7) ≡ record { answer = made_done 69; output = new_form }) ×
    (new_stored_of (replicate 68 7) ≡ record { answer = not_made (refusal 14 0 0); output = replicate 68 7 })
unfolding written_answer stored_form no_parties scheme_parts party_parts record_bytes bytes_of check_from flat_map sound sound_figures sound_numbers rise_to parties_sound schemes_sound all_zero sum_over first_put_in place_of
new_cases_hold = (refl, refl)

-- a new ledger has no entry 1, which is told before the output is too short; no bytes are no ledger
pub hand_over_cases_hold :
    (stored_call_of new_form 512 (hand_over 1 5) [] ≡ record { answer = not_made (refusal 11 0 0); output = [] }) ×
    (stored_call_of [] 512 (hand_over 1 5) [] ≡ record { answer = not_read (refusal 1 1 0); output = [] })
unfolding stored_read no_parties answered leaves read_answer table_answer stored_entries stored_schemes stored_ledger no_schemes values_at number check_from due_from all_had front_of walk_from fields_from first_with fields_with same_bytes sound sound_figures sound_numbers rise_to parties_sound schemes_sound all_zero sum_over first_put_in place_of
hand_over_cases_hold = (refl, refl)

-- the whole standing credit of the first entry paid out, and one cent more, which is told before the output is too short; the second entry handed over
pub entry_cases_hold :
    (stored_call_of joined_form 2 (pay_out 1 17) (replicate 175 7) ≡ record { answer = made_done 174; output = form_with joined_form 131 (24 ∷ []) (207 ∷ 104 ∷ []) ++ (7 ∷ []) }) ×
    (stored_call_of joined_form 2 (pay_out 1 18) [] ≡ record { answer = not_made (refusal 12 0 0); output = [] }) ×
    (stored_call_of joined_form 2 (hand_over 2 70001) (replicate 174 7) ≡ record { answer = made_done 174; output = form_with joined_form 141 (0 ∷ 1 ∷ 17 ∷ 113 ∷ []) (20 ∷ 114 ∷ []) })
unfolding stored_read no_parties answered leaves written_answer stored_form scheme_parts party_parts record_bytes bytes_of flat_map read_answer table_answer stored_entries stored_schemes stored_ledger no_schemes values_at number check_from due_from all_had front_of walk_from fields_from first_with fields_with same_bytes sound sound_figures sound_numbers rise_to parties_sound schemes_sound all_zero sum_over first_put_in place_of
entry_cases_hold = (refl, refl, refl)

-- a month before the last one, which is told before the output is too short; the scheme, in force to month 89, with a standing credit after that, and then
-- with its credit paid out
abbrev paid_form : List ℕ
paid_form = form_with joined_form 131 (24 ∷ []) (207 ∷ 104 ∷ [])

pub clear_cases_hold :
    (stored_call_of joined_form 2 (clear 11) [] ≡ record { answer = not_made (refusal 7 0 0); output = [] }) ×
    (stored_call_of joined_form 2 (clear 90) (replicate 174 7) ≡ record { answer = made_done 174; output = form_with joined_form 11 (90 ∷ []) (126 ∷ 191 ∷ []) }) ×
    (stored_call_of paid_form 2 (clear 89) (replicate 174 7) ≡ record { answer = made_done 174; output = form_with paid_form 11 (89 ∷ []) (121 ∷ 98 ∷ []) }) ×
    (stored_call_of paid_form 2 (clear 90) (replicate 70 7) ≡ record { answer = made_done 69; output = 1 ∷ 0 ∷ 4 ∷ 80 ∷ 73 ∷ 79 ∷ 50 ∷ 2 ∷ 0 ∷ 54 ∷ 0 ∷ 90 ∷ 0 ∷ 0 ∷ 0 ∷ 2 ∷ 0 ∷ 0 ∷ 0 ∷ 0 ∷ 0 ∷ 0 ∷ 1 ∷ 44 ∷ 0 ∷ 0 ∷ 0 ∷ 0 ∷ 0 ∷ 0 ∷ 0 ∷ 7 ∷ 0 ∷ 0 ∷ 0 ∷ 2 ∷ 0 ∷ 0 ∷ 0 ∷ 3 ∷ 0 ∷ 0 ∷ 0 ∷ 0 ∷ 0 ∷ 0 ∷ 0 ∷ 25 ∷ 0 ∷ 0 ∷ 0 ∷ 0 ∷ 0 ∷ 0 ∷ 0 ∷ 24 ∷ 0 ∷ 0 ∷ 0 ∷ 0 ∷ 0 ∷ 0 ∷ 0 ∷ 1 ∷ 255 ∷ 0 ∷ 2 ∷ 231 ∷ 116 ∷ 7 ∷ [] })
unfolding stored_read no_parties answered leaves written_answer stored_form scheme_parts party_parts record_bytes bytes_of flat_map read_answer table_answer stored_entries stored_schemes stored_ledger no_schemes values_at number check_from due_from all_had front_of walk_from fields_from first_with fields_with same_bytes sound sound_figures sound_numbers rise_to parties_sound schemes_sound all_zero sum_over first_put_in place_of
clear_cases_hold = (refl, refl, refl, refl)

-- no bytes; and two entries, whose table has one record, then two
pub check_cases_hold :
    (check_stored_of new_form 512 ≡ Ok (counts_of new_ledger)) ×
    (check_stored_of [] 512 ≡ Err (refusal 1 1 0)) ×
    (check_stored_of joined_form 1 ≡ Err (refusal 9 0 0)) ×
    (check_stored_of joined_form 2 ≡ Ok (counts_of joined_scheme))
unfolding stored_read no_parties read_answer table_answer stored_entries stored_schemes stored_ledger no_schemes values_at number check_from due_from all_had front_of walk_from fields_from first_with fields_with same_bytes sound sound_figures sound_numbers rise_to parties_sound schemes_sound all_zero sum_over first_put_in place_of
check_cases_hold = (refl, refl, refl, refl)

-- a request with this X that joins the scheme with this number, none where it is 0; X above 4 opens a scheme
abbrev bill : ℕ → ℕ → Bill
bill x scheme =
    record {
      reconciliation = reconciliation_of (record { me = x; mc = 0; ce = 0; cc2 = 0; de = 0; tw = 0; hr = 0; ol = 0 }) 0 1 0;
      terms = record { threshold = 4; fee = 1; minimum = 2; term = 84 };
      applicant = record { person = 9; month = 12; capacity = 3; scheme = scheme; mark = 0 };
    }

abbrev answer : ℕ → JoiningAnswer → Option ℕ → ℕ → StoredCallAnswer
answer x joining opening size = made_accepted (record { reconciliation = (bill x 0).reconciliation; joining = joining; opening = opening }) size

-- what is read of a stored ledger, into a table of so many records
abbrev state_read : List ℕ → ℕ → State
state_read file room = state_of (stored_read file room).ledger (stored_read file room).table

-- what accept comes to on a sound ledger with this pricing
abbrev priced : State → Pricing → List ℕ → StoredCallAnswer
priced state pricing out =
    let decision = accept_by (books_on state) pricing in
    let after = carried_out state decision in
    (end_by (answer_to (books_on state) decision) (write_of after.ledger after.table out) out).answer

-- a table of no record, then of one: "an opening on table length 0 is 9"
pub opening_cases_hold : (book request : List ℕ) → price_of book request ≡ Ok (bill 5 0) →
    ((stored_call_of new_form 0 (accept book request) []).answer ≡ not_made (refusal 9 0 0)) ×
    ((stored_call_of new_form 1 (accept book request) (replicate 137 7)).answer ≡ answer 5 NotAsked (Some 1) 137)
unfolding stored_read no_parties answered leaves verdict written_answer stored_form scheme_parts party_parts record_bytes bytes_of flat_map read_answer table_answer stored_entries stored_schemes stored_ledger no_schemes values_at number check_from due_from all_had front_of walk_from fields_from first_with fields_with same_bytes sound sound_figures sound_numbers rise_to parties_sound schemes_sound all_zero sum_over first_put_in place_of
opening_cases_hold book request is = (
  ap (λ pricing. priced (state_read new_form 0) pricing []) is,
  ap (λ pricing. priced (state_read new_form 1) pricing (replicate 137 7)) is,
)

-- the one entry's record alone, then one more
pub joining_cases_hold : (book request : List ℕ) → price_of book request ≡ Ok (bill 4 1) →
    ((stored_call_of one_form 1 (accept book request) []).answer ≡ not_made (refusal 9 0 0)) ×
    ((stored_call_of one_form 2 (accept book request) (replicate 174 7)).answer ≡ answer 4 (Joined (record { entry = 2; contribution = 2 })) None 174)
unfolding stored_read no_parties answered leaves verdict written_answer stored_form scheme_parts party_parts record_bytes bytes_of flat_map read_answer table_answer stored_entries stored_schemes stored_ledger no_schemes values_at number check_from due_from all_had front_of walk_from fields_from first_with fields_with same_bytes sound sound_figures sound_numbers rise_to parties_sound schemes_sound all_zero sum_over first_put_in place_of
joining_cases_hold book request is = (
  ap (λ pricing. priced (state_read one_form 1) pricing []) is,
  ap (λ pricing. priced (state_read one_form 2) pricing (replicate 174 7)) is,
)

-- a joiner that builds on: one record more than the one entry's, then two; its entry is 2, and the scheme that opens is the second
pub building_on_cases_hold : (book request : List ℕ) → price_of book request ≡ Ok (bill 5 1) →
    ((stored_call_of one_form 2 (accept book request) []).answer ≡ not_made (refusal 9 0 0)) ×
    ((stored_call_of one_form 3 (accept book request) (replicate 242 7)).answer ≡ answer 5 (Joined (record { entry = 2; contribution = 2 })) (Some 2) 242)
unfolding stored_read no_parties answered leaves verdict written_answer stored_form scheme_parts party_parts record_bytes bytes_of flat_map read_answer table_answer stored_entries stored_schemes stored_ledger no_schemes values_at number check_from due_from all_had front_of walk_from fields_from first_with fields_with same_bytes sound sound_figures sound_numbers rise_to parties_sound schemes_sound all_zero sum_over first_put_in place_of
building_on_cases_hold book request is = (
  ap (λ pricing. priced (state_read one_form 2) pricing []) is,
  ap (λ pricing. priced (state_read one_form 3) pricing (replicate 242 7)) is,
)

-- on a ledger whose scheme 1 was cleared in month 24,399, and whose next scheme is 3
abbrev later_bill : ℕ → ℕ → Bill
later_bill x scheme = record (bill x scheme) { applicant = record { person = 9; month = 24399; capacity = 3; scheme = scheme; mark = 0 } }

-- joining scheme 1 is "ended", alone, and beside an opening, which takes number 3 and needs a record more than the one entry's
pub ended_cases_hold : (book request : List ℕ) → price_of book request ≡ Ok (later_bill 4 1) →
    (stored_call_of cleared_form 1 (accept book request) (replicate 137 7)).answer ≡ answer 4 Ended None 137
unfolding stored_read no_parties answered leaves verdict written_answer stored_form scheme_parts party_parts record_bytes bytes_of flat_map read_answer table_answer stored_entries stored_schemes stored_ledger no_schemes values_at number check_from due_from all_had front_of walk_from fields_from first_with fields_with same_bytes sound sound_figures sound_numbers rise_to parties_sound schemes_sound all_zero sum_over first_put_in place_of
ended_cases_hold book request is = ap (λ pricing. priced (state_read cleared_form 1) pricing (replicate 137 7)) is

pub ended_and_opens_cases_hold : (book request : List ℕ) → price_of book request ≡ Ok (later_bill 5 1) →
    ((stored_call_of cleared_form 1 (accept book request) []).answer ≡ not_made (refusal 9 0 0)) ×
    ((stored_call_of cleared_form 2 (accept book request) (replicate 205 7)).answer ≡ answer 5 Ended (Some 3) 205)
unfolding stored_read no_parties answered leaves verdict written_answer stored_form scheme_parts party_parts record_bytes bytes_of flat_map read_answer table_answer stored_entries stored_schemes stored_ledger no_schemes values_at number check_from due_from all_had front_of walk_from fields_from first_with fields_with same_bytes sound sound_figures sound_numbers rise_to parties_sound schemes_sound all_zero sum_over first_put_in place_of
ended_and_opens_cases_hold book request is = (
  ap (λ pricing. priced (state_read cleared_form 1) pricing []) is,
  ap (λ pricing. priced (state_read cleared_form 2) pricing (replicate 205 7)) is,
)

-- scheme 3 was never opened
pub not_opened_case_holds : (book request : List ℕ) → price_of book request ≡ Ok (later_bill 4 3) →
    (stored_call_of cleared_form 1 (accept book request) []).answer ≡ not_made (refusal 6 0 0)
unfolding stored_read no_parties answered leaves verdict written_answer stored_form scheme_parts party_parts record_bytes bytes_of flat_map read_answer table_answer stored_entries stored_schemes stored_ledger no_schemes values_at number check_from due_from all_had front_of walk_from fields_from first_with fields_with same_bytes sound sound_figures sound_numbers rise_to parties_sound schemes_sound all_zero sum_over first_put_in place_of
not_opened_case_holds book request is = ap (λ pricing. priced (state_read cleared_form 1) pricing []) is
