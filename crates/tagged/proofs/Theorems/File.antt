-- How a file stands, by its last five bytes, its check and its walk; what a file that stands satisfies; and the numbers of refusals.
use Rattle.std.specs.Prelude.{ℕ, ◌-◌, ◌≤◌, ◌≡◌, refl, List, Bool, true, false, cond, length, ltb, Err, Ok}
use Rattle.std.proofs.Common.{sym, ap, ◌∙◌, true≢false, ⊎_elim, arith, ltb-false}
use Rattle.std.specs.Result.{result_and}
use mathlib.Mathlib.Data.Bool.Basic.{dichotomy}
use Rattle.tagged.proofs.Theorems.Impossible.{impossible}
use Rattle.field_walk.specs.Walk.{Walk, fields, stops, walk}
use Rattle.tagged.specs.File.{tail_stands, check_stands, fields_part, refusal, of_walk, answer_by_walk, file_answer, FileAnswer}
use Rattle.tagged.specs.FileStands.{StandsBy, FileStands, RefusalTo}
use Rattle.tagged.specs.Refusals.{file_does_not_walk, check_differs}
use Rattle.tagged.specs.declared.file.Refusal.{Refusal}

pub tail_size : (s : List ℕ) → tail_stands s ≡ true → 5 ≤ length s
tail_size s e = ⊎_elim (ltb-false _ _) (λ small. absurd (true≢false (sym e ∙ rw small))) (dichotomy (ltb (length s) 5))

-- document 01's order, however the fields walk
module _ (file : ℕ) (s : List ℕ) (walked : Walk) where
  pub bad_tail : tail_stands s ≡ false → answer_by_walk file s walked ≡ Err (refusal file_does_not_walk file 0)
  bad_tail tail = rw tail

  pub bad_check : tail_stands s ≡ true → check_stands s ≡ false → answer_by_walk file s walked ≡ Err (refusal check_differs file (length s - 2))
  bad_check tail checked = rw (tail, checked)

  pub walk_decides : tail_stands s ≡ true → check_stands s ≡ true → answer_by_walk file s walked ≡ of_walk file walked
  walk_decides tail checked = rw (tail, checked)

pub stands_by : (file : ℕ) (s : List ℕ) (walked : Walk) → answer_by_walk file s walked ≡ Ok tt → StandsBy walked s
stands_by file s walked e = ⊎_elim (λ tail. no (bad_tail file s walked tail)) by_check (dichotomy (tail_stands s))
  where
    no : {r : Refusal} → answer_by_walk file s walked ≡ Err r → StandsBy walked s
    no p = impossible cc

    by_walk : tail_stands s ≡ true → check_stands s ≡ true → (w : Walk) → walked ≡ w → StandsBy walked s
    by_walk tail checked (fields fs) p = record { size = tail_size s tail; tail = tail; right_check = checked; field_list = fs; walks = p }
    by_walk tail checked (stops at) p = no (walk_decides file s walked tail checked ∙ ap (of_walk file) p)

    by_check : tail_stands s ≡ true → StandsBy walked s
    by_check tail =
        ⊎_elim
        (λ checked. no (bad_check file s walked tail checked))
        (λ checked. by_walk tail checked walked refl)
        (dichotomy (check_stands s))

pub stands_means : (rows : List (List ℕ)) (file : ℕ) (s : List ℕ) → file_answer rows file s ≡ Ok tt → FileStands rows s
stands_means rows file s = stands_by file s (walk rows (fields_part s))

abbrev pub RefusesTo : ℕ → ℕ → FileAnswer → Type 0
RefusesTo most file (Ok _) = Unit {0}
RefusesTo most file (Err r) = RefusalTo most file r

pub answer_refusal_numbers : (file : ℕ) (s : List ℕ) (walked : Walk) → RefusesTo check_differs file (answer_by_walk file s walked)
answer_refusal_numbers file s walked = by (tail_stands s) (check_stands s) walked
  where
    by : (tail checked : Bool) (w : Walk) →
        RefusesTo check_differs file
        (result_and {T = Unit {0}} (cond tail (cond checked (Ok tt) (Err (refusal check_differs file (length s - 2)))) (Err (refusal file_does_not_walk file 0))) (of_walk file w))
    by false checked w = (omega arith, omega arith, refl)
    by true false w = (omega arith, omega arith, refl)
    by true true (fields fs) = tt
    by true true (stops at) = (omega arith, omega arith, refl)

pub file_refusal_numbers : (rows : List (List ℕ)) (file : ℕ) (s : List ℕ) → RefusesTo check_differs file (file_answer rows file s)
file_refusal_numbers rows file s = answer_refusal_numbers file s (walk rows (fields_part s))
