-- The numbers of a value against their limits, one number on and past the last limit.
use Rattle.std.specs.Prelude.{Err, Ok}
use Prim.Native.Nat.{ℕ, ◌+◌, ◌-◌, ◌≤◌, ◌<◌}
use mathlib.Core.Path.{◌≡◌, sym, ◌∙◌}
use mathlib.Core.List.{List, []}
use mathlib.Core.Bool.{Bool, true, cond, false≢true}
use mathlib.Core.Logic.{◌⊎◌, inl, inr}
use native.Mathlib.Nat.{add_assoc}
use lib.ListN.{length, get_or, drop, length-drop}
use Rattle.std.proofs.lemmas.List.{drop_more, at_drop_more, at_drop_all}
use lib.Seq.{drop-drop}
use lib.Dec.{ltb, eqb}
use borrow.Author.Tests.{eqb-true}
use Rattle.numbers.specs.BigEndian.{number_at}
use Rattle.tagged.proofs.Theorems.Walk.{by_test}
use Rattle.field_values.specs.Judged.{width_of, within, judge_numbers}
use Rattle.field_values.specs.Narrow.{narrow}

module _ (limits : List (List ℕ)) (k : ℕ) where
  pub numbers_at : (at : ℕ) (value : List ℕ) (offset : ℕ) → k < length limits →
      judge_numbers (drop k limits) (at + offset) (drop offset value)
      ≡ cond (ltb (length value - offset) (width_of (get_or limits k []))) (Ok tt)
      (cond (within (get_or limits k []) (number_at value offset (width_of (get_or limits k []))))
      (judge_numbers (drop (k + 1) limits) (at + (offset + width_of (get_or limits k []))) (drop (offset + width_of (get_or limits k [])) value))
      (Err (at + offset)))
  unfolding judge_numbers
  numbers_at at value offset h = rw (drop_more limits k [] h, length-drop, drop-drop, add_assoc)

  pub numbers_past : (at : ℕ) (value : List ℕ) → length limits ≤ k → judge_numbers (drop k limits) at value ≡ Ok tt
  unfolding judge_numbers
  numbers_past at value h = at_drop_all (λ later. judge_numbers later at value) limits k h

module _ (limits : List (List ℕ)) (k : ℕ) (h : k < length limits) where
  pub narrow_at : narrow (drop k limits) ≡ true →
      ((width_of (get_or limits k []) ≡ 1) ⊎ ((width_of (get_or limits k []) ≡ 2) ⊎ (width_of (get_or limits k []) ≡ 4))) × (narrow (drop (k + 1) limits) ≡ true)
  unfolding narrow
  narrow_at e =
      by_test P (eqb width 1) _ _ (λ t e. (inl (eqb-true _ _ t), e))
      (λ _. by_test P (eqb width 2) _ _ (λ t e. (inr (inl (eqb-true _ _ t)), e))
      (λ _. by_test P (eqb width 4) _ _ (λ t e. (inr (inr (eqb-true _ _ t)), e)) (λ _ e. absurd (false≢true e))))
      (sym (at_drop_more narrow limits k [] h) ∙ e)
    where
      width : ℕ
      width = width_of (get_or limits k [])

      P : Bool → Type 0
      P t = t ≡ true → ((width ≡ 1) ⊎ ((width ≡ 2) ⊎ (width ≡ 4))) × (narrow (drop (k + 1) limits) ≡ true)
