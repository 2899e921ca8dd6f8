-- What a call on stored bytes counts as in demand 3, and which bytes are kept after it, case by case: three bytes of output, over two that were kept before.
use Rattle.std.specs.Prelude.{◌≡◌, [], ◌∷◌}
use Rattle.tagged.specs.File.{refusal}
use Rattle.calls.specs.Decision.{is_accepted, is_done, is_refused}
use Rattle.calls.specs.declared.answers.Acceptance.{Acceptance}
use Rattle.stored_calls.specs.StoredCalls.{StoredCallAnswer, not_read, not_made, made_accepted, made_done}
use Rattle.stored_history.specs.StoredDemandThree.{StoredStep, step_by}

abbrev step : StoredCallAnswer → StoredStep
step answer = step_by (record { answer = answer; output = 7 ∷ 8 ∷ 9 ∷ [] }) (1 ∷ 2 ∷ [])

pub record BytesKept : Type 0 where
  pub ledger_refused : step (not_read (refusal 2 1 35)) ≡ record { answer = is_refused (refusal 2 1 35); kept = 1 ∷ 2 ∷ [] }
  pub call_refused : step (not_made (refusal 11 0 0)) ≡ record { answer = is_refused (refusal 11 0 0); kept = 1 ∷ 2 ∷ [] }
  pub call_accepted : (acceptance : Acceptance) → step (made_accepted acceptance 1) ≡ record { answer = is_accepted acceptance; kept = 7 ∷ [] }
  pub call_done : step (made_done 2) ≡ record { answer = is_done; kept = 7 ∷ 8 ∷ [] }
