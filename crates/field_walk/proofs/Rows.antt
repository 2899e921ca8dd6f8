-- The definitions over the rows of a form, one row on and past the last, in terms of the table.
use Rattle.std.specs.Prelude.{None, Some, Option}
use mathlib.Core.Path.{◌≡◌, refl, ap, ◌∙◌}
use mathlib.Core.List.{List, [], ◌∷◌}
use mathlib.Core.Bool.{true, false, cond}
use Prim.Native.Nat.{ℕ, ◌+◌, ◌≤◌, ◌<◌}
use native.Mathlib.Nat.{zero-add}
use native.Mathlib.Omega.{arith}
use lib.ListN.{length, get_or, drop, drop_of_length-le, length-drop, length-map}
use lib.Dec.{ltb, eqb}
use Rattle.std.specs.List.{enumerate_from}
use Rattle.std.specs.Iterator.{Yields}
use Rattle.std.proofs.lemmas.List.{drop_more, get_or-drop, get_or_default}
use Rattle.std.proofs.lemmas.List.FromFn.{length-enumerate_from, get_or-enumerate_from}
use Rattle.std.proofs.lemmas.Iterator.{YieldsList}
use Rattle.std.proofs.lemmas.Iterator.Consumers.{YieldsList-turn}
use Rattle.field_walk.specs.Walk.{due_from, all_had, tag_of, most_of, least_of, permitted_by, row_in, rows_in}
use Rattle.field_walk.proofs.Theorems.Forms.{same_in, row_in_lem}

-- where a loop over the rows from one on has come to, after i of them
module _ (rows : List (List ℕ)) (from i : ℕ) where
  row_on : (row : List ℕ) → i < length (drop from rows) → row ≡ get_or (drop from rows) i row → (from + i < length rows) × (row ≡ get_or rows (from + i) [])
  row_on row h e =
      let within : from + i < length rows = omega (arith, length-drop from rows) in
      (within, e ∙ get_or-drop from rows i row ∙ get_or_default rows (from + i) row [] within)

  pub rows_passed : i ≡ length (drop from rows) → length rows ≤ from + i
  rows_passed e = omega (arith, length-drop from rows)

  -- the same over the rows with their numbers
  numbered_on : (number : ℕ) (row : List ℕ) → i < length (drop from (enumerate_from 0 rows)) →
      (number, row) ≡ get_or (drop from (enumerate_from 0 rows)) i (number, row) →
      (from + i < length rows) × (number ≡ from + i) × (row ≡ get_or rows (from + i) [])
  numbered_on number row h e =
      let within : from + i < length rows = omega (arith, length-drop from (enumerate_from 0 rows), length-enumerate_from 0 rows) in
      let at : (number, row) ≡ (0 + (from + i), get_or rows (from + i) row) =
      e ∙ get_or-drop from (enumerate_from 0 rows) i (number, row) ∙ get_or-enumerate_from 0 rows (from + i) (number, row) within in
      (within, ap (λ (p : ℕ × List ℕ). p.0) at ∙ zero-add _, ap (λ (p : ℕ × List ℕ). p.1) at ∙ get_or_default rows (from + i) row [] within)

  pub numbered_passed : i ≡ length (drop from (enumerate_from 0 rows)) → length rows ≤ from + i
  numbered_passed e = omega (arith, length-drop from (enumerate_from 0 rows), length-enumerate_from 0 rows)

-- a turn of such a loop, by what the iterator has yielded before it
module _ {S A : Type 0} {steps : S → Option A → S → Type 0} {s : S} (rows : List (List ℕ)) (from : ℕ) where
  pub row_turn : {v : A → List ℕ} (yields : YieldsList steps v s (drop from rows)) (xs : List A) (t : S) → Yields steps s xs t → (r : Option A) (u : S) (x : A) → r ≡ Some x → steps t r u →
      (from + length xs < length rows) × (v x ≡ get_or rows (from + length xs) [])
  row_turn {v} yields xs t so_far r u x is p = let turn = YieldsList-turn yields xs t so_far r u x is p in row_on rows from (length xs) (v x) turn.0 turn.1

  pub numbered_turn : {v : A → ℕ × List ℕ} (yields : YieldsList steps v s (drop from (enumerate_from 0 rows))) (xs : List A) (t : S) → Yields steps s xs t → (r : Option A) (u : S) (x : A) → r ≡ Some x → steps t r u →
      (from + length xs < length rows) × ((v x).0 ≡ from + length xs) × ((v x).1 ≡ get_or rows (from + length xs) [])
  numbered_turn {v} yields xs t so_far r u x is p = let turn = YieldsList-turn yields xs t so_far r u x is p in numbered_on rows from (length xs) (v x).0 (v x).1 turn.0 turn.1

module _ (rows : List (List ℕ)) (form k : ℕ) where
  pub permitted_in : (len : ℕ) → permitted_by (get_or (rows_in form rows) k []) len ≡ permitted_by (get_or rows k []) len
  permitted_in len = ap (λ row. permitted_by row len) (row_in_lem rows form k) ∙ same_in (λ row. permitted_by row len) (get_or rows k []) refl form

  past_in : length rows ≤ k → drop k (rows_in form rows) ≡ []
  past_in h = let past : length (rows_in form rows) ≤ k = omega (arith, length-map rows (row_in form)) in drop_of_length-le (rows_in form rows) past

  module _ (n : ℕ) where
    module _ (h : k < length rows) where
      rows_on : drop k (rows_in form rows) ≡ row_in form (get_or rows k []) ∷ drop (k + 1) (rows_in form rows)
      rows_on = rw (drop_more (rows_in form rows) k [] (omega (arith, length-map rows (row_in form))), row_in_lem rows form k)

      pub due_at : (tag : ℕ) →
          due_from (drop k (rows_in form rows)) k n tag
          ≡ cond (eqb (tag_of (get_or rows k [])) tag)
          (cond (ltb n (most_of (row_in form (get_or rows k [])))) (Some (k, n + 1)) None)
          (cond (ltb n (least_of (row_in form (get_or rows k [])))) None (due_from (drop (k + 1) (rows_in form rows)) (k + 1) 0 tag))
      unfolding due_from
      due_at tag = rw (rows_on, same_in tag_of (get_or rows k []) refl form)

      pub had_at : all_had (drop k (rows_in form rows)) n ≡ cond (ltb n (least_of (row_in form (get_or rows k [])))) false (all_had (drop (k + 1) (rows_in form rows)) 0)
      unfolding all_had
      had_at = rw rows_on

    pub due_past : (tag : ℕ) → length rows ≤ k → due_from (drop k (rows_in form rows)) k n tag ≡ None
    unfolding due_from
    due_past tag h = rw (past_in h)

    pub had_past : length rows ≤ k → all_had (drop k (rows_in form rows)) n ≡ true
    unfolding all_had
    had_past h = rw (past_in h)
