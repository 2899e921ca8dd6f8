-- How each case of an answer ends: number, file, place and values as literals.
use Rattle.std.specs.Prelude.{ℕ, ◌≡◌, refl, List, [], ◌∷◌, map, pos, None, Option, Some}
use Rattle.tagged.specs.File.{refusal}
use Rattle.tagged.specs.Ending.{Ending, ending_of}
use Rattle.reconciliation.specs.Cases.Figures.{sample, sample_figures}
use Rattle.calls.specs.Decision.{CallAnswer, is_accepted, is_done, is_refused}
use Rattle.calls.specs.CallEnding.{call_ending}
use Rattle.calls.specs.declared.answers.JoiningAnswer.{JoiningAnswer}
use Rattle.calls.specs.declared.answers.JoiningAnswer.TheVariants.{NotAsked, Ended, Small, Joined}

abbrev accepted_with : JoiningAnswer → Option ℕ → CallAnswer
accepted_with joining opening = is_accepted (record { reconciliation = sample; joining = joining; opening = opening })

-- kind of the joining, entry, G and scheme opened, before the figures
abbrev ending_cases : List (CallAnswer × Ending)
ending_cases =
    -- plain, opened, joined, small and ended
    (accepted_with NotAsked None, ending_of 0 0 0 (pos 0 ∷ pos 0 ∷ pos 0 ∷ pos 0 ∷ sample_figures)) ∷
    (accepted_with NotAsked (Some 12), ending_of 0 0 0 (pos 0 ∷ pos 0 ∷ pos 0 ∷ pos 12 ∷ sample_figures)) ∷
    (accepted_with (Joined (record { entry = 34; contribution = 5600 })) None, ending_of 0 0 0 (pos 1 ∷ pos 34 ∷ pos 5600 ∷ pos 0 ∷ sample_figures)) ∷
    (accepted_with Small None, ending_of 0 0 0 (pos 2 ∷ pos 0 ∷ pos 0 ∷ pos 0 ∷ sample_figures)) ∷
    (accepted_with Ended None, ending_of 0 0 0 (pos 3 ∷ pos 0 ∷ pos 0 ∷ pos 0 ∷ sample_figures)) ∷
    -- each joining with an opening
    (accepted_with (Joined (record { entry = 34; contribution = 5600 })) (Some 12), ending_of 0 0 0 (pos 1 ∷ pos 34 ∷ pos 5600 ∷ pos 12 ∷ sample_figures)) ∷
    (accepted_with Small (Some 12), ending_of 0 0 0 (pos 2 ∷ pos 0 ∷ pos 0 ∷ pos 12 ∷ sample_figures)) ∷
    (accepted_with Ended (Some 12), ending_of 0 0 0 (pos 3 ∷ pos 0 ∷ pos 0 ∷ pos 12 ∷ sample_figures)) ∷
    (is_done, ending_of 0 0 0 []) ∷
    (is_refused (refusal 5 2 3), ending_of 5 2 3 []) ∷
    []

pub ending_cases_hold : map (λ row. call_ending row.0) ending_cases ≡ map (λ row. row.1) ending_cases
ending_cases_hold = refl
