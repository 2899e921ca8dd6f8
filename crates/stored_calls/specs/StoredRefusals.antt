-- Which answers on stored bytes are no success, the length that the others tell, and the numbers that the calls refuse with: reading's, the call's own and
-- writing's.
use Rattle.std.specs.Prelude.{ℕ, List, [], ◌∷◌, Bool, true, false}
use Rattle.tagged.specs.Refusals.{file_does_not_walk, check_differs, value_not_listed, zone_not_in_book, bespoke_not_allowed, scheme_never_opened, month_before_last, no_scheme_left, no_entry_left, no_connection_left, no_such_entry, pay_out_above_credit, ledger_unsound, output_too_short}
use Rattle.calls.specs.Decision.{Call, accept, pay_out, hand_over, clear}
use Rattle.stored_calls.specs.StoredCalls.{StoredCallAnswer, not_read, not_made, made_accepted, made_done}

-- ---- an answer that is no success: the output is as it was
abbrev pub is_made : StoredCallAnswer → Bool
is_made (not_read r) = false
is_made (not_made r) = false
is_made (made_accepted acceptance size) = true
is_made (made_done size) = true

-- the length that a call answers that was made
abbrev pub length_in : StoredCallAnswer → ℕ
length_in (not_read r) = 0
length_in (not_made r) = 0
length_in (made_accepted acceptance size) = size
length_in (made_done size) = size

-- ---- the numbers of the refusals
abbrev pub stored_numbers : Call → List ℕ
stored_numbers (accept book request) =
    file_does_not_walk ∷
    check_differs ∷
    value_not_listed ∷
    zone_not_in_book ∷
    bespoke_not_allowed ∷
    scheme_never_opened ∷
    month_before_last ∷
    no_scheme_left ∷
    no_entry_left ∷
    no_connection_left ∷
    ledger_unsound ∷
    output_too_short ∷
    []
stored_numbers (pay_out e amount) =
    file_does_not_walk ∷ check_differs ∷ value_not_listed ∷ no_entry_left ∷ no_such_entry ∷ pay_out_above_credit ∷ ledger_unsound ∷ output_too_short ∷ []
stored_numbers (hand_over e person) = file_does_not_walk ∷ check_differs ∷ value_not_listed ∷ no_entry_left ∷ no_such_entry ∷ ledger_unsound ∷ output_too_short ∷ []
stored_numbers (clear month) = file_does_not_walk ∷ check_differs ∷ value_not_listed ∷ month_before_last ∷ no_entry_left ∷ ledger_unsound ∷ output_too_short ∷ []
