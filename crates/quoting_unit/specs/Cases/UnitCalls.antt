-- Whole calls, and the limits of the lent buffers.
use Rattle.std.specs.Prelude.{◌≡◌, refl, true, false, [], ◌∷◌, ◌++◌, pos, get_or, replicate, Err}
use Rattle.std.proofs.Common.{ap}
use Rattle.reconciliation.specs.Figures.{figure_values}
use Rattle.reconciliation.specs.SlipReconciliation.{slip_reconciliation}
use Rattle.charge.specs.Cases.MarkedFigures.{slip_book, slip_request, bespoke_request, scheme_request, pricing_refusals, scheme_bills}
use Rattle.tagged.specs.File.{refusal}
use Rattle.stored.specs.Writing.{WriteEnd}
use Rattle.stored.specs.Cases.Stored.{new_form, joined_form, form_with}
use Rattle.stored.specs.Cases.Moves.{old_new_form, old_two_schemes_form, cleared_form, to_new_cases_hold, back_cases_hold}
use Rattle.stored_calls.specs.Cases.StoredCalls.{new_cases_hold, hand_over_cases_hold, clear_cases_hold, check_cases_hold}
use Rattle.calls.specs.Decision.{accept, hand_over, clear}
use Rattle.quoting_unit.specs.Interface.{lent_figures, lent_output, lent_both, lent_answer}
use Rattle.quoting_unit.specs.Unit.{price, new_ledger, on_ledger, check_ledger, move_to_new, move_back, too_short, ledger_made, move_made, leaves_by, unit_call}

-- 5 places and 4, 27 places and 26, and the 21 that the figures once had
pub buffer_limits :
    (too_short new_ledger (lent_output [] (replicate 5 0)) ≡ false)
    × (too_short new_ledger (lent_output [] (replicate 4 0)) ≡ true)
    × (too_short (price [] []) (lent_figures (replicate 27 (pos 0))) ≡ false)
    × (too_short (price [] []) (lent_figures (replicate 26 (pos 0))) ≡ true)
    × (too_short (price [] []) (lent_figures (replicate 21 (pos 0))) ≡ true)
    × (too_short (on_ledger [] 0 (accept [] [])) (lent_both [] (replicate 27 (pos 0)) (replicate 5 0)) ≡ false)
    × (too_short (on_ledger [] 0 (accept [] [])) (lent_both [] (replicate 26 (pos 0)) (replicate 5 0)) ≡ true)
    × (too_short (on_ledger [] 0 (accept [] [])) (lent_both [] (replicate 27 (pos 0)) (replicate 4 0)) ≡ true)
    × (too_short (on_ledger [] 0 (clear 0)) (lent_output [] (replicate 5 0)) ≡ false)
    × (too_short (on_ledger [] 0 (clear 0)) (lent_output [] (replicate 4 0)) ≡ true)
    × (too_short (move_to_new []) (lent_output [] (replicate 5 0)) ≡ false)
    × (too_short (move_to_new []) (lent_output [] (replicate 4 0)) ≡ true)
    × (too_short (move_back []) (lent_output [] (replicate 5 0)) ≡ false)
    × (too_short (move_back []) (lent_output [] (replicate 4 0)) ≡ true)
buffer_limits = (refl, refl, refl, refl, refl, refl, refl, refl, refl, refl, refl, refl, refl, refl)

-- ---- whole calls, on buffers with a place more than they need, with as many and with one fewer

-- a request with the slip's figures, and one whose third tier's bespoke rate isn't allowed
pub price_cases :
    (unit_call (price slip_book (scheme_request 1039630 24315 5000 1)) (lent_figures (replicate 28 (pos 7)))
    ≡ record { result = 0; lent = lent_figures (figure_values slip_reconciliation ++ (pos 7 ∷ [])) })
    × (unit_call (price slip_book (bespoke_request 12750 57001)) (lent_figures (replicate 27 (pos 7)))
    ≡ record { result = 837; lent = lent_figures (replicate 27 (pos 7)) })
    × (unit_call (price slip_book slip_request) (lent_figures (replicate 26 (pos 7))) ≡ record { result = 14; lent = lent_figures (replicate 26 (pos 7)) })
price_cases = (rw scheme_bills.joining, rw pricing_refusals.1, refl)

pub new_ledger_cases :
    (unit_call new_ledger (lent_output (replicate 69 7) (replicate 6 9)) ≡ record { result = 0; lent = lent_output new_form (0 ∷ 0 ∷ 0 ∷ 0 ∷ 69 ∷ 9 ∷ []) })
    × (unit_call new_ledger (lent_output (replicate 68 7) (replicate 5 9)) ≡ record { result = 14; lent = lent_output (replicate 68 7) (replicate 5 9) })
    × (unit_call new_ledger (lent_output (replicate 69 7) (replicate 4 9)) ≡ record { result = 14; lent = lent_output (replicate 69 7) (replicate 4 9) })
new_ledger_cases =
    let long = lent_output (replicate 69 7) (replicate 6 9) in
    let short = lent_output (replicate 68 7) (replicate 5 9) in (
      ap (λ called. leaves_by (ledger_made called long) long) new_cases_hold.0,
      ap (λ called. leaves_by (ledger_made called short) short) new_cases_hold.1,
      refl,
    )

-- a refusal of the stored ledger itself, 128 above a call's own; two entries and a table of one record, then of two
pub stored_cases :
    (unit_call (on_ledger new_form 512 (hand_over 1 5)) (lent_output [] (replicate 5 9)) ≡ record { result = 11; lent = lent_output [] (replicate 5 9) })
    × (unit_call (on_ledger [] 512 (hand_over 1 5)) (lent_output [] (replicate 5 9)) ≡ record { result = 161; lent = lent_output [] (replicate 5 9) })
    × (unit_call (check_ledger new_form 512) (lent_answer (replicate 5 9)) ≡ record { result = 0; lent = lent_answer (replicate 5 0) })
    × (unit_call (check_ledger [] 512) (lent_answer (replicate 5 9)) ≡ record { result = 161; lent = lent_answer (replicate 5 9) })
    × (unit_call (check_ledger joined_form 1) (lent_answer (replicate 5 9)) ≡ record { result = 137; lent = lent_answer (replicate 5 9) })
    × (unit_call (check_ledger joined_form 2) (lent_answer (replicate 6 9)) ≡ record { result = 0; lent = lent_answer (1 ∷ 2 ∷ 2 ∷ 12 ∷ 0 ∷ 9 ∷ []) })
stored_cases = (
  rw hand_over_cases_hold.0,
  rw hand_over_cases_hold.1,
  rw check_cases_hold.0,
  rw check_cases_hold.1,
  rw check_cases_hold.2,
  rw check_cases_hold.3,
)

-- a clearing before the last month, and one in which nothing goes
pub clear_cases :
    (unit_call (on_ledger joined_form 2 (clear 11)) (lent_output [] (replicate 5 9)) ≡ record { result = 7; lent = lent_output [] (replicate 5 9) })
    × (unit_call (on_ledger joined_form 2 (clear 90)) (lent_output (replicate 174 7) (replicate 6 9))
    ≡ record { result = 0; lent = lent_output (form_with joined_form 11 (90 ∷ []) (126 ∷ 191 ∷ [])) (0 ∷ 0 ∷ 0 ∷ 0 ∷ 174 ∷ 9 ∷ []) })
    × (unit_call (on_ledger joined_form 2 (clear 90)) (lent_output (replicate 174 7) (replicate 4 9))
    ≡ record { result = 14; lent = lent_output (replicate 174 7) (replicate 4 9) })
clear_cases =
    let before = lent_output [] (replicate 5 9) in
    let long = lent_output (replicate 174 7) (replicate 6 9) in (
      ap (λ called. leaves_by (ledger_made called before) before) clear_cases_hold.0,
      ap (λ called. leaves_by (ledger_made called long) long) clear_cases_hold.1,
      refl,
    )

abbrev no_move : WriteEnd
no_move = record { answer = Err (refusal 0 0 0); output = [] }

-- both moves: done, refused by the call itself, by the file, and with a place too few for the answer
pub move_cases :
    (unit_call (move_to_new old_new_form) (lent_output (replicate 70 7) (replicate 6 9))
    ≡ record { result = 0; lent = lent_output (new_form ++ (7 ∷ [])) (0 ∷ 0 ∷ 0 ∷ 0 ∷ 69 ∷ 9 ∷ []) })
    × (unit_call (move_to_new old_two_schemes_form) (lent_output (replicate 241 7) (replicate 5 9))
    ≡ record { result = 14; lent = lent_output (replicate 241 7) (replicate 5 9) })
    × (unit_call (move_to_new []) (lent_output [] (replicate 5 9)) ≡ record { result = 161; lent = lent_output [] (replicate 5 9) })
    × (unit_call (move_to_new old_new_form) (lent_output (replicate 70 7) (replicate 4 9))
    ≡ record { result = 14; lent = lent_output (replicate 70 7) (replicate 4 9) })
    × (unit_call (move_back new_form) (lent_output (replicate 38 7) (replicate 6 9))
    ≡ record { result = 0; lent = lent_output (old_new_form ++ (7 ∷ [])) (0 ∷ 0 ∷ 0 ∷ 0 ∷ 37 ∷ 9 ∷ []) })
    × (unit_call (move_back cleared_form) (lent_output (replicate 137 7) (replicate 5 9))
    ≡ record { result = 16; lent = lent_output (replicate 137 7) (replicate 5 9) })
    × (unit_call (move_back []) (lent_output [] (replicate 5 9)) ≡ record { result = 161; lent = lent_output [] (replicate 5 9) })
    × (unit_call (move_back new_form) (lent_output (replicate 38 7) (replicate 4 9))
    ≡ record { result = 14; lent = lent_output (replicate 38 7) (replicate 4 9) })
move_cases =
    let to_new = lent_output (replicate 70 7) (replicate 6 9) in
    let short = lent_output (replicate 241 7) (replicate 5 9) in
    let back = lent_output (replicate 38 7) (replicate 6 9) in
    let cleared = lent_output (replicate 137 7) (replicate 5 9) in
    let none = lent_output [] (replicate 5 9) in (
      ap (λ ends. leaves_by (move_made (get_or ends 1 no_move) to_new) to_new) to_new_cases_hold,
      ap (λ ends. leaves_by (move_made (get_or ends 5 no_move) short) short) to_new_cases_hold,
      ap (λ ends. leaves_by (move_made (get_or ends 6 no_move) none) none) to_new_cases_hold,
      refl,
      ap (λ ends. leaves_by (move_made (get_or ends 1 no_move) back) back) back_cases_hold,
      ap (λ ends. leaves_by (move_made (get_or ends 10 no_move) cleared) cleared) back_cases_hold,
      ap (λ ends. leaves_by (move_made (get_or ends 6 no_move) none) none) back_cases_hold,
      refl,
    )
