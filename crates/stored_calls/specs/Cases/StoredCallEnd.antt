-- How a call on stored bytes ends once it is made: the call's own refusal, 14, and the form written, in literals.
use Rattle.std.specs.Prelude.{◌≡◌, refl, List, [], ◌∷◌, map, Err, Ok}
use Rattle.tagged.specs.File.{refusal}
use Rattle.calls.specs.Decision.{CallAnswer, is_done, is_refused}
use Rattle.stored.specs.Writing.{WriteEnd}
use Rattle.stored_calls.specs.StoredCalls.{not_made, made_done, CallEnd, end_by}

-- how writing ends on an output of one byte 7
abbrev form_written : WriteEnd
form_written = record { answer = Ok 1; output = 8 ∷ [] }

abbrev writing_refused : WriteEnd
writing_refused = record { answer = Err (refusal 14 0 0); output = 7 ∷ [] }

-- the call's answer, writing's end, and the call's end: its own refusal before 14, and nothing written then
abbrev end_cases : List (CallAnswer × WriteEnd × CallEnd)
end_cases =
    (is_done, form_written, record { answer = made_done 1; output = 8 ∷ [] }) ∷
    (is_done, writing_refused, record { answer = not_made (refusal 14 0 0); output = 7 ∷ [] }) ∷
    (is_refused (refusal 12 0 0), writing_refused, record { answer = not_made (refusal 12 0 0); output = 7 ∷ [] }) ∷
    (is_refused (refusal 12 0 0), form_written, record { answer = not_made (refusal 12 0 0); output = 7 ∷ [] }) ∷
    []

pub end_cases_hold : map (λ row. end_by row.0 row.1 (7 ∷ [])) end_cases ≡ map (λ row. row.2) end_cases
end_cases_hold = refl
