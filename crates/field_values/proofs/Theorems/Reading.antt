-- How a reading is answered.
use Rattle.std.specs.Prelude.{ℕ, ◌≡◌, refl, List, Err, Ok}
use Rattle.std.proofs.Common.{arith}
use Rattle.tagged.specs.Refusals.{check_differs, value_not_listed}
use Rattle.tagged.specs.File.{file_answer, answer_of, FileAnswer}
use Rattle.tagged.proofs.Theorems.File.{RefusesTo, file_refusal_numbers}
use Rattle.field_values.specs.Reading.{reading_of}
use Rattle.field_values.specs.Judged.{Judged}

module _ {Values : Type 0} (number : ℕ) where
  -- Where a reading is accepted, the file stands and each value is as listed.
  pub reading_accepted : (stands : FileAnswer) (judged : Judged) (values : Values) → answer_of (reading_of number stands judged values) ≡ Ok tt →
      (stands ≡ Ok tt) × (judged ≡ Ok tt)
  reading_accepted (Ok _) (Ok _) values e = (refl, refl)
  reading_accepted (Ok _) (Err at) values e = absurd (cc)
  reading_accepted (Err r) judged values e = absurd (cc)

  -- A reading answers its file's refusal, or 3 where a value isn't as listed.
  pub reading_refusal_numbers : (rows : List (List ℕ)) (file : List ℕ) (judged : Judged) (values : Values) →
      RefusesTo value_not_listed number (answer_of (reading_of number (file_answer rows number file) judged values))
  reading_refusal_numbers rows file judged values = by (file_answer rows number file) judged (file_refusal_numbers rows number file)
    where
      by : (stands : FileAnswer) (judged : Judged) → RefusesTo check_differs number stands → RefusesTo value_not_listed number (answer_of (reading_of number stands judged values))
      by (Ok _) (Ok _) h = tt
      by (Ok _) (Err at) h = (omega arith, omega arith, refl)
      by (Err r) judged h = (h.0, omega arith, h.2)
