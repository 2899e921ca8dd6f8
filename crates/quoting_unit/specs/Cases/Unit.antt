-- The places of each answer in literals, and whose refusal a result tells.
use Rattle.std.specs.Prelude.{◌≡◌, refl, [], ◌∷◌, map, None, Ok, Some, Err}
use Rattle.tagged.specs.File.{refusal}
use Rattle.calls.specs.declared.answers.JoiningAnswer.TheVariants.{NotAsked, Ended, Small, Joined}
use Rattle.stored_calls.specs.StoredCalls.{not_read, not_made}
use Rattle.quoting_unit.specs.Interface.{outcome_of}
use Rattle.quoting_unit.specs.Unit.{acceptance_places, unit_call_ending, check_ending, move_ending}

-- each joining with each opening
pub answers_placed :
    (acceptance_places NotAsked None 32 ≡ 0 ∷ 0 ∷ 0 ∷ 0 ∷ 32 ∷ [])
    × (acceptance_places NotAsked (Some 7) 32 ≡ 0 ∷ 0 ∷ 0 ∷ 7 ∷ 32 ∷ [])
    × (acceptance_places (Joined (record { entry = 8; contribution = 9 })) None 32 ≡ 1 ∷ 8 ∷ 9 ∷ 0 ∷ 32 ∷ [])
    × (acceptance_places (Joined (record { entry = 8; contribution = 9 })) (Some 7) 32 ≡ 1 ∷ 8 ∷ 9 ∷ 7 ∷ 32 ∷ [])
    × (acceptance_places Small None 32 ≡ 2 ∷ 0 ∷ 0 ∷ 0 ∷ 32 ∷ [])
    × (acceptance_places Small (Some 7) 32 ≡ 2 ∷ 0 ∷ 0 ∷ 7 ∷ 32 ∷ [])
    × (acceptance_places Ended None 32 ≡ 3 ∷ 0 ∷ 0 ∷ 0 ∷ 32 ∷ [])
    × (acceptance_places Ended (Some 7) 32 ≡ 3 ∷ 0 ∷ 0 ∷ 7 ∷ 32 ∷ [])
answers_placed = (refl, refl, refl, refl, refl, refl, refl, refl)

-- no bytes as a stored ledger, and as a book
pub ledger_told_apart :
    ((outcome_of (unit_call_ending (not_read (refusal 1 1 0)))).result ≡ 161)
    × ((outcome_of (unit_call_ending (not_made (refusal 1 1 0)))).result ≡ 33)
    × ((outcome_of (check_ending (Err (refusal 1 1 0)))).result ≡ 161)
ledger_told_apart = (refl, refl, refl)

-- a form's length, and each refusal of a move: 14 and 16 are its own
pub moves_told :
    (outcome_of (move_ending (Ok 137)) ≡ record { result = 0; told = 0 ∷ 0 ∷ 0 ∷ 0 ∷ 137 ∷ [] })
    × (map (λ r. (outcome_of (move_ending (Err r))).result)
    (refusal 1 1 7 ∷ refusal 2 1 35 ∷ refusal 3 1 3 ∷ refusal 13 0 0 ∷ refusal 14 0 0 ∷ refusal 16 0 0 ∷ [])
    ≡ 1953 ∷ 9122 ∷ 931 ∷ 141 ∷ 14 ∷ 16 ∷ [])
moves_told = (refl, refl)
