-- How a request is answered, by its file and its values; and one with exactly one byte altered is refused.
use Rattle.std.specs.Prelude.{ℕ, ◌-◌, ◌<◌, ◌≡◌, List, ◌⊎◌, length, get_or, set, Err, Ok}
use Rattle.std.proofs.Common.{sym, ◌∙◌, inl, inr, ⊎_elim}
use Rattle.numbers.specs.BigEndian.{Bytes}
use Rattle.field_walk.specs.FieldsWalk.{FieldsWalk}
use Rattle.tagged.specs.Refusals.{file_does_not_walk, check_differs, value_not_listed}
use Rattle.tagged.specs.File.{refusal, answer_of, file_answer, fields_part}
use Rattle.tagged.proofs.Theorems.File.{stands_means, RefusesTo}
use Rattle.tagged.proofs.Theorems.AlteredByte.{altered_file_refused}
use Rattle.tagged.specs.declared.file.Refusal.{Refusal}
use Rattle.field_values.specs.Reading.{reading_of}
use Rattle.field_values.proofs.Theorems.Reading.{reading_accepted, reading_refusal_numbers}
use Rattle.field_values.specs.Judged.{Judged}
use Rattle.request.specs.RequestRows.{request_rows}
use Rattle.request.specs.Request.{judge_request, request_values, request_of}
use Rattle.request.specs.declared.values.Request.{Request}

-- A request is accepted where its file stands and each of its values is as document 01, 'Request', lists it.
pub record RequestAccepted (number : ℕ) (file : List ℕ) : Type 0 where
  pub stands : file_answer request_rows number file ≡ Ok tt
  pub passes : judge_request (fields_part file) ≡ Ok tt
  pub values : request_of number file ≡ Ok (request_values (fields_part file))

module _ (number : ℕ) (file : List ℕ) where
  pub request_refused : (r : Refusal) → file_answer request_rows number file ≡ Err r → request_of number file ≡ Err r
  unfolding request_of
  request_refused r e = rw e

  pub request_judged : (judged : Judged) → file_answer request_rows number file ≡ Ok tt → judge_request (fields_part file) ≡ judged
      → request_of number file ≡ reading_of number (Ok tt) judged (request_values (fields_part file))
  unfolding request_of
  request_judged judged e j = rw (e, j)

  -- the fields of a request that stands walk
  pub request_walks : file_answer request_rows number file ≡ Ok tt → FieldsWalk request_rows (fields_part file)
  request_walks stands = let w = stands_means request_rows number file stands in (w.field_list, w.walks)

  pub request_refusal_numbers : RefusesTo value_not_listed number (answer_of (request_of number file))
  unfolding request_of
  request_refusal_numbers = reading_refusal_numbers number request_rows file (judge_request (fields_part file)) (request_values (fields_part file))

  pub request_accepted : answer_of (request_of number file) ≡ Ok tt → RequestAccepted number file
  unfolding request_of
  request_accepted e =
      let both =
      reading_accepted number (file_answer request_rows number file) (judge_request (fields_part file)) (request_values (fields_part file)) e in
      record { stands = both.0; passes = both.1; values = request_judged (Ok tt) both.0 both.1 }

  module _ {request : Request} (read : request_of number file ≡ Ok request) where
    pub read_accepted : RequestAccepted number file
    read_accepted = request_accepted (rw read)

    -- what was read is what the fields say
    pub request_is_values : request ≡ request_values (fields_part file)
    request_is_values = let both = sym read ∙ read_accepted.values in cc

-- A request that is accepted and then has exactly one byte altered is refused: with 1 for its last five bytes, or with 2.
pub altered_request_refused : (number : ℕ) (file : List ℕ) (i b : ℕ) → Bytes file → i < length file → b < 256 → (get_or file i 0 ≡ b → ⊥)
    → answer_of (request_of number file) ≡ Ok tt
    → (request_of number (set file i b) ≡ Err (refusal file_does_not_walk number 0))
    ⊎ (request_of number (set file i b) ≡ Err (refusal check_differs number (length file - 2)))
altered_request_refused number file i b bytes within below other e =
    ⊎_elim
    (λ p. inl (request_refused number (set file i b) _ p))
    (λ p. inr (request_refused number (set file i b) _ p))
    (altered_file_refused request_rows number file i b bytes within below other (request_accepted number file e).stands)
