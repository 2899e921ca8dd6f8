-- Endings of the calls on stored bytes in literals.
use Rattle.std.specs.Prelude.{ℕ, ◌≡◌, refl, List, [], ◌∷◌, map, Bool, true, false, pos, None, Option, Some, Err, Ok}
use Rattle.tagged.specs.Ending.{Ending, ending_of}
use Rattle.tagged.specs.File.{refusal}
use Rattle.reconciliation.specs.Cases.Figures.{sample, sample_figures}
use Rattle.calls.specs.declared.answers.JoiningAnswer.TheVariants.{Joined}
use Rattle.stored_calls.specs.StoredCalls.{StoredAccept, StoredAnswer, StoredCheck, of_stored_accept, of_stored_answer}
use Rattle.stored_calls.specs.StoredCallEnding.{stored_call_ending, of_stored_ledger, stored_check_ending}
use Rattle.stored_calls.specs.declared.StoredCounts.{StoredCounts}
use Rattle.stored_calls.specs.declared.StoredRefusal.TheVariants.{NotRead, NotMade}

abbrev pub stored_accept_ending : StoredAccept → Ending
stored_accept_ending answer = stored_call_ending (of_stored_accept answer)

abbrev pub stored_answer_ending : StoredAnswer → Ending
stored_answer_ending answer = stored_call_ending (of_stored_answer answer)

-- ---- each case's ending as literals, and whether the stored ledger itself is refused
abbrev joined : Option ℕ → StoredAccept
joined opening =
    Ok
    (record {
      acceptance = record { reconciliation = sample; joining = Joined (record { entry = 34; contribution = 5600 }); opening = opening };
      length = 130;
    })

abbrev accept_cases : List (StoredAccept × (Bool × Ending))
accept_cases =
    (Err (NotRead (refusal 2 1 35)), (true, ending_of 2 1 35 [])) ∷
    (Err (NotMade (refusal 5 2 3)), (false, ending_of 5 2 3 [])) ∷
    (joined None, (false, ending_of 0 0 0 (pos 130 ∷ pos 1 ∷ pos 34 ∷ pos 5600 ∷ pos 0 ∷ sample_figures))) ∷
    (joined (Some 12), (false, ending_of 0 0 0 (pos 130 ∷ pos 1 ∷ pos 34 ∷ pos 5600 ∷ pos 12 ∷ sample_figures))) ∷
    []

abbrev answer_cases : List (StoredAnswer × (Bool × Ending))
answer_cases =
    (Err (NotRead (refusal 2 1 35)), (true, ending_of 2 1 35 [])) ∷
    (Err (NotMade (refusal 12 0 0)), (false, ending_of 12 0 0 [])) ∷
    (Ok 97, (false, ending_of 0 0 0 (pos 97 ∷ []))) ∷
    []

abbrev counted : StoredCounts
counted = record { month = 12; connections = 2; charged = 300; borne = 7; schemes = 1; entries = 4 }

abbrev check_cases : List (StoredCheck × Ending)
check_cases =
    (Err (refusal 2 1 35), ending_of 2 1 35 []) ∷
    (Ok counted, ending_of 0 0 0 (pos 12 ∷ pos 2 ∷ pos 300 ∷ pos 7 ∷ pos 1 ∷ pos 4 ∷ [])) ∷
    []

pub stored_ending_cases_hold :
    (map (λ row. (of_stored_ledger (of_stored_accept row.0), stored_accept_ending row.0)) accept_cases ≡ map (λ row. row.1) accept_cases) ×
    (map (λ row. (of_stored_ledger (of_stored_answer row.0), stored_answer_ending row.0)) answer_cases ≡ map (λ row. row.1) answer_cases) ×
    (map (λ row. stored_check_ending row.0) check_cases ≡ map (λ row. row.1) check_cases)
stored_ending_cases_hold = (refl, refl, refl)
