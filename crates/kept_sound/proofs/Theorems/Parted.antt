-- A list parted by numbers that differ: what has one of them, number by number, and what has none come to all of it.
use Rattle.std.specs.Prelude.{ℕ, ◌+◌, ◌<◌, ◌≤◌, ◌≡◌, refl, List, [], ◌∷◌, filter, Bool, true, false, cond, not, eqb}
use Rattle.std.proofs.Common.{ap, ◌∙◌, arith, eqb-true, ne_eqb}
use Rattle.ledger.specs.Lists.{sum_by, All, nil, more}
use Rattle.ledger.specs.RefusalNumbers.{one_of}
use Rattle.ledger.specs.Sound.{rise_to}
use Rattle.ledger.proofs.Theorems.Rising.{rise_first, rise_later}
use Rattle.calls.proofs.Theorems.Lists.{cons_if, all_any, all_map, sum_by_none, sum_by_plus, sum_by_same}

-- how often a number stands in a list
abbrev pub count_of : ℕ → List ℕ → ℕ
count_of n numbers = sum_by (λ s. cond (eqb n s) 1 0) numbers

-- ---- numbers that rise differ
pub above_all : (next before : ℕ) (numbers : List ℕ) → rise_to next before numbers ≡ true → All (λ n. before < n) numbers
above_all next before [] rise = nil
above_all next before (n ∷ later) rise =
    let first : before < n = rise_first next before n later rise in
    more first (all_map (λ m (above : n < m). omega (arith, first, above)) (above_all next n later (rise_later next before n later rise)))

pub rise_once : (next before : ℕ) (numbers : List ℕ) → rise_to next before numbers ≡ true → (n : ℕ) → count_of n numbers ≤ 1
rise_once next before [] rise n = omega arith
rise_once next before (s ∷ later) rise n = by (eqb n s) refl (rise_once next s later (rise_later next before s later rise) n)
  where
    by : (own : Bool) → eqb n s ≡ own → count_of n later ≤ 1 → count_of n later + cond own 1 0 ≤ 1
    by true own h =
        omega (
          arith,
          sum_by_none (λ m. cond (eqb n m) 1 0)
              (all_map (λ m (above : s < m). ap (λ (t : Bool). cond t 1 0) (ne_eqb n m (λ same. omega (arith, same, above, eqb-true n s own))))
              (above_all next s later (rise_later next before s later rise))),
        )
    by false own h = omega (arith, h)

-- ---- a weight for a number that stands once, or not at all
none_of : (n w : ℕ) (numbers : List ℕ) → count_of n numbers ≡ 0 → sum_by (λ s. cond (eqb n s) w 0) numbers ≡ 0
none_of n w [] none = refl
none_of n w (s ∷ later) none = by (eqb n s) none (none_of n w later)
  where
    by : (own : Bool) → count_of n later + cond own 1 0 ≡ 0 → (count_of n later ≡ 0 → sum_by (λ s. cond (eqb n s) w 0) later ≡ 0) →
        sum_by (λ s. cond (eqb n s) w 0) later + cond own w 0 ≡ 0
    by true none rest = absurd (omega arith)
    by false none rest = omega (arith, rest (omega (arith, none)))

once_of : (n w : ℕ) (numbers : List ℕ) → count_of n numbers ≤ 1 → sum_by (λ s. cond (eqb n s) w 0) numbers ≡ cond (one_of numbers n) w 0
once_of n w [] once = refl
once_of n w (s ∷ later) once = by (eqb n s) once (once_of n w later)
  where
    by : (own : Bool) → count_of n later + cond own 1 0 ≤ 1 → (count_of n later ≤ 1 → sum_by (λ s. cond (eqb n s) w 0) later ≡ cond (one_of later n) w 0) →
        sum_by (λ s. cond (eqb n s) w 0) later + cond own w 0 ≡ cond (cond own true (one_of later n)) w 0
    by true once rest = omega (arith, none_of n w later (omega (arith, once)))
    by false once rest = omega (arith, rest (omega (arith, once)))

-- ---- the parts and the rest
module _ {A : Type 0} (key : A → ℕ) (weight : A → ℕ) (gone : List ℕ) (once : (n : ℕ) → count_of n gone ≤ 1) where
  abbrev of_key : ℕ → List A → List A
  of_key s xs = filter (λ x. eqb (key x) s) xs

  weight_cons_if : (t : Bool) (x : A) (xs : List A) → sum_by weight (cons_if t x xs) ≡ sum_by weight xs + cond t (weight x) 0
  weight_cons_if true x xs = refl
  weight_cons_if false x xs = omega arith

  one_or_other : (t : Bool) (w : ℕ) → cond t w 0 + cond (not t) w 0 ≡ w
  one_or_other true w = omega arith
  one_or_other false w = omega arith

  pub parted : (xs : List A) →
      sum_by (λ s. sum_by weight (of_key s xs)) gone + sum_by weight (filter (λ x. not (one_of gone (key x))) xs) ≡ sum_by weight xs
  parted [] = omega (arith, sum_by_none (λ s. 0) (all_any gone (λ s. refl {a = 0})))
  parted (x ∷ xs) =
      let grown : sum_by (λ s. sum_by weight (of_key s (x ∷ xs))) gone ≡ sum_by (λ s. sum_by weight (of_key s xs)) gone + cond (one_of gone (key x)) (weight x) 0 =
      sum_by_same (λ s. sum_by weight (of_key s (x ∷ xs))) (λ s. sum_by weight (of_key s xs) + cond (eqb (key x) s) (weight x) 0)
      (all_any gone (λ s. weight_cons_if (eqb (key x) s) x (of_key s xs)))
      ∙ sum_by_plus (λ s. sum_by weight (of_key s xs)) (λ s. cond (eqb (key x) s) (weight x) 0) gone
      ∙ ap (λ n. sum_by (λ s. sum_by weight (of_key s xs)) gone + n) (once_of (key x) (weight x) gone (once (key x))) in
      omega (
        arith,
        grown,
        weight_cons_if (not (one_of gone (key x))) x (filter (λ x. not (one_of gone (key x))) xs),
        parted xs,
        one_or_other (one_of gone (key x)) (weight x),
      )
