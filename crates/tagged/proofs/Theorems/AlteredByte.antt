-- A file that stands and then has exactly one byte altered is refused, whatever its kind: with 1 for its last five bytes, or with 2.
use Rattle.std.specs.Prelude.{ℕ, ◌+◌, ◌-◌, ◌<◌, ◌≤◌, ◌≡◌, ◌⊎◌, List, true, false, length, get_or, set, take, drop, ltb, Err, Ok}
use Rattle.std.proofs.Common.{sym, ap, ◌∙◌, inl, inr, ⊎_elim, arith, length-take, length-set, get_or-take, get_or-drop, get_or-set_same, drop-set-lt, ltb-true, ltb-false, eqb-true, ne_eqb}
use mathlib.Mathlib.Data.Bool.Basic.{dichotomy}
use Rattle.std.proofs.lemmas.List.{take-set-le}
use Rattle.std.proofs.Math.Seq.{take-set-lt}
use Rattle.numbers.specs.BigEndian.{Bytes, number, number_at}
use Rattle.numbers.proofs.Theorems.BigEndian.{Bytes-set, number_at_injective}
use Rattle.numbers.specs.Check.{check}
use Rattle.numbers.proofs.Theorems.Check.{check_set_byte}
use Rattle.field_walk.specs.Walk.{Walk, walk}
use Rattle.tagged.specs.File.{tail_stands, check_stands, fields_part, refusal, answer_by_walk, file_answer}
use Rattle.tagged.specs.Refusals.{file_does_not_walk, check_differs}
use Rattle.tagged.proofs.Theorems.File.{bad_tail, bad_check, stands_by}

-- The altered byte is one of those that the check is over, or one of the check itself.
module _ (s : List ℕ) (i b : ℕ) (bytes : Bytes s) (within : i < length s) (below : b < 256) (other : get_or s i 0 ≡ b → ⊥) where
  altered_covered : (n : ℕ) → i < n → check (take n (set s i b)) ≡ check (take n s) → ⊥
  altered_covered n l e =
      let in_part : i < length (take n s) = simp length-take (omega arith) in
      let same : get_or (take n s) i 0 ≡ get_or s i 0 = get_or-take n s i 0 l in
      other (sym same ∙ check_set_byte 0 (take n s) i b in_part (rw same (bytes i)) below (rw take-set-lt at e))

  altered_stored : (n width : ℕ) → n ≤ i → i < n + width → number_at (set s i b) n width ≡ number_at s n width → ⊥
  altered_stored n width l m e =
      let part = number_at_injective (set s i b) s n width (Bytes-set s i b bytes below) bytes (length-set s i b) e in
      other (sym (nth s) ∙ ap (λ x. get_or x (i - n) 0) (sym part) ∙ nth (set s i b) ∙ get_or-set_same s i b 0 within)
    where
      nth : (x : List ℕ) → get_or (take width (drop n x)) (i - n) 0 ≡ get_or x i 0
      nth x = get_or-take width (drop n x) (i - n) 0 (omega arith) ∙ get_or-drop n x (i - n) 0 ∙ ap (λ k. get_or x k 0) (omega arith)

  pub altered_check : check_stands s ≡ true → check_stands (set s i b) ≡ false
  altered_check e = rw length-set (ne_eqb _ _ (λ q. ⊎_elim (in_check q) (in_covered q) (dichotomy (ltb i n))))
    where
      n : ℕ
      n = length s - 2

      in_check : number_at (set s i b) n 2 ≡ check (take n (set s i b)) → ltb i n ≡ false → ⊥
      in_check q f =
          let l : n ≤ i = ltb-false _ _ f in
          altered_stored n 2 l (omega arith) (q ∙ ap check (take-set-le n s i b l) ∙ sym (eqb-true _ _ e))

      in_covered : number_at (set s i b) n 2 ≡ check (take n (set s i b)) → ltb i n ≡ true → ⊥
      in_covered q f =
          let l : i < n = ltb-true _ _ f in
          altered_covered n l (sym q ∙ ap (λ x. number (take 2 x)) (drop-set-lt n s i b l) ∙ eqb-true _ _ e)

-- However the fields of the two files walk.
pub altered_refused : (file : ℕ) (walked other_walked : Walk) (s : List ℕ) (i b : ℕ) → Bytes s → i < length s → b < 256 → (get_or s i 0 ≡ b → ⊥)
    → answer_by_walk file s walked ≡ Ok tt
    → (answer_by_walk file (set s i b) other_walked ≡ Err (refusal file_does_not_walk file 0))
    ⊎ (answer_by_walk file (set s i b) other_walked ≡ Err (refusal check_differs file (length s - 2)))
altered_refused file walked other_walked s i b bytes within below other e =
    let checked = altered_check s i b bytes within below other (stands_by file s walked e).right_check in
    ⊎_elim
    (λ tail. inl (bad_tail file (set s i b) other_walked tail))
    (λ tail. inr (bad_check file (set s i b) other_walked tail checked ∙ ap (λ n. Err (refusal check_differs file (n - 2))) (length-set s i b)))
    (dichotomy (tail_stands (set s i b)))

pub altered_file_refused : (rows : List (List ℕ)) (file : ℕ) (s : List ℕ) (i b : ℕ) → Bytes s → i < length s → b < 256 → (get_or s i 0 ≡ b → ⊥)
    → file_answer rows file s ≡ Ok tt
    → (file_answer rows file (set s i b) ≡ Err (refusal file_does_not_walk file 0)) ⊎ (file_answer rows file (set s i b) ≡ Err (refusal check_differs file (length s - 2)))
altered_file_refused rows file s i b = altered_refused file (walk rows (fields_part s)) (walk rows (fields_part (set s i b))) s i b
