-- Lists of refusal numbers: more numbers in place of fewer, and the numbers from 1 on.
use Rattle.std.specs.Prelude.{ℕ, zero, suc, ◌≤◌, ◌≡◌, List, [], ◌∷◌, map, true, false, eqb}
use Rattle.std.proofs.Common.{sym, ◌∙◌, ⊎_elim, arith, eqb-true}
use Rattle.std.proofs.lemmas.Bool.{false≢true, eqb-false}
use mathlib.Mathlib.Data.Bool.Basic.{dichotomy}
use Rattle.ledger.specs.Sound.{all_hold}
use Rattle.ledger.proofs.Theorems.Sound.{both_true}
use Rattle.ledger.specs.RefusalNumbers.{one_of, one_to}
use Rattle.ledger.specs.NumberLists.{Among}

pub one_of_more : (numbers more : List ℕ) (n : ℕ) → Among numbers more → one_of numbers n ≡ true → one_of more n ≡ true
one_of_more [] more n among h = absurd (false≢true h)
one_of_more (number ∷ numbers) more n among h =
    let both = both_true (one_of more number) (all_hold (map (one_of more) numbers)) among in
    ⊎_elim
    (λ differs. one_of_more numbers more n both.1 (rw differs at h))
    (λ same. rw (eqb-true n number same) both.0)
    (dichotomy (eqb n number))

pub within_one_to : (most n : ℕ) → 1 ≤ n → n ≤ most → one_of (one_to most) n ≡ true
within_one_to zero n low high = absurd (omega arith)
within_one_to (suc most) n low high =
    ⊎_elim
    (λ differs. let other = eqb-false n (suc most) differs in rw differs (within_one_to most n low (omega arith)))
    (λ same. rw same)
    (dichotomy (eqb n (suc most)))

pub one_to_within : (most n : ℕ) → one_of (one_to most) n ≡ true → (1 ≤ n) × (n ≤ most)
one_to_within zero n h = absurd (false≢true h)
one_to_within (suc most) n h =
    ⊎_elim
    (λ differs. let below = one_to_within most n (rw differs at h) in (below.0, omega arith))
    (λ same. let e = eqb-true n (suc most) same in (omega arith, omega arith))
    (dichotomy (eqb n (suc most)))

-- where 0 is none of the numbers
pub one_of_positive : (numbers : List ℕ) (n : ℕ) → one_of numbers 0 ≡ false → one_of numbers n ≡ true → 1 ≤ n
one_of_positive numbers zero none h = absurd (false≢true (sym none ∙ h))
one_of_positive numbers (suc n) none h = omega arith
