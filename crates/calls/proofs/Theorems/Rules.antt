-- Laws of what a joiner pays, of one share of it, and of all shares together.
use Rattle.std.specs.Prelude.{ℕ, ◌+◌, ◌*◌, ◌/◌, ◌≤◌, ◌<◌, ◌≡◌, refl, List, [], ◌∷◌, cond, eqb}
use Rattle.std.proofs.Common.{sym, ap, ◌∙◌, add-zero, zero-add, mul-zero, mul-div_cancel, div-mul-le_self, le-div_iff_mul-le, arith, eq-eqb, ne_eqb}
use Rattle.std.proofs.Math.Nat.{lt-div-mul-add, zero-div}
use Rattle.ledger.specs.Lists.{sum_by}
use Rattle.calls.specs.Rules.{Holding, capacity_of, contribution, share, split, shared}

-- ---- G
pub contribution_low : (cost k total : ℕ) → contribution cost k total * (total + k) ≤ cost * k
contribution_low cost k total = div-mul-le_self (cost * k) (total + k)

pub contribution_high : (cost k total : ℕ) → 0 < total + k → cost * k < (contribution cost k total + 1) * (total + k)
contribution_high cost k total positive = omega (arith, lt-div-mul-add {a = cost * k} positive)

-- ---- one share: within a cent of its part of the amount
module _ (amount total before weight : ℕ) (positive : 0 < total) where
  pub rises : amount * before / total ≤ amount * (before + weight) / total
  rises = (le-div_iff_mul-le positive).1 (omega (arith, div-mul-le_self (amount * before) total))

  pub growth : amount * before / total + share amount total before weight ≡ amount * (before + weight) / total
  growth = omega (arith, rises)

  pub share_low : amount * weight < share amount total before weight * total + total
  share_low =
      omega (arith, ap (λ x. x * total) growth, div-mul-le_self (amount * before) total, lt-div-mul-add {a = amount * (before + weight)} positive)

  pub share_high : share amount total before weight * total < amount * weight + total
  share_high =
      omega (arith, ap (λ x. x * total) growth, div-mul-le_self (amount * (before + weight)) total, lt-div-mul-add {a = amount * before} positive)

-- ---- the shares come to the whole amount
split_sum : (amount total before : ℕ) → 0 < total → (parties : List Holding) →
    sum_by (λ credit. credit.amount) (split amount total before parties) + amount * before / total ≡ amount * (before + capacity_of parties) / total
split_sum amount total before positive [] = zero-add (amount * before / total) ∙ ap (λ (n : ℕ). amount * n / total) (sym (add-zero before))
split_sum amount total before positive (party ∷ later) =
    let regroup : before + party.capacity + capacity_of later ≡ before + (capacity_of later + party.capacity) = omega arith in
    omega (
      arith,
      split_sum amount total (before + party.capacity) positive later,
      growth amount total before party.capacity positive,
      ap (λ (n : ℕ). amount * n / total) regroup,
    )

pub shared_whole : (amount : ℕ) (parties : List Holding) → 0 < capacity_of parties → sum_by (λ credit. credit.amount) (shared amount parties) ≡ amount
shared_whole amount parties positive =
    let total = capacity_of parties in
    omega (
      arith,
      split_sum amount total 0 positive parties,
      ap (λ (n : ℕ). amount * n / total) (zero-add total),
      mul-div_cancel amount positive,
      ap (λ (n : ℕ). n / total) (mul-zero amount),
      zero-div total,
    )

-- ---- a figure where two numbers are the same
pub where_own : (n x : ℕ) → cond (eqb n n) x 0 ≡ x
where_own n x = rw (eq-eqb n n refl)

pub where_other : (m n x : ℕ) → (m ≡ n → ⊥) → cond (eqb m n) x 0 ≡ 0
where_other m n x apart = rw (ne_eqb m n apart)
