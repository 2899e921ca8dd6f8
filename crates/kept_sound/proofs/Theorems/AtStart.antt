-- Records at the start of a list, and over those that stand there already.
use Rattle.std.specs.Prelude.{ℕ, ◌+◌, ◌-◌, ◌≤◌, ◌≡◌, List, ◌++◌, length, take, drop}
use Rattle.std.proofs.Common.{sym, ap, ◌∙◌, arith, take_at, drop-drop}
use Rattle.std.proofs.Math.Seq.{drop-append-add}
use Rattle.ledger.specs.Lists.{at_start}

module _ {A : Type 0} where
  pub take_at_start : (xs before : List A) (n : ℕ) → length xs ≡ n → take n (at_start xs before) ≡ xs
  take_at_start xs before n same = take_at xs (drop (length xs) before) n same

  -- over fewer that stood there
  pub at_start_again : (xs ys before : List A) → length ys ≤ length xs → at_start xs (at_start ys before) ≡ at_start xs before
  at_start_again xs ys before fewer =
      let k = length xs - length ys in
      let many : length ys + k ≡ length xs = omega arith in
      ap (λ (l : List A). xs ++ l)
      (ap (λ (n : ℕ). drop n (at_start ys before)) (sym many)
      ∙ drop-append-add ys (drop (length ys) before) k
      ∙ drop-drop k (length ys) before
      ∙ ap (λ (n : ℕ). drop n before) many)
