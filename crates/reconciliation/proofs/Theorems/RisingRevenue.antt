-- Where IR rises, CC never rises and NC never falls: the credit rises by no more than IR, since the share is at most one.
use Rattle.std.specs.Prelude.{ℕ, zero, suc, ◌+◌, ◌*◌, ◌-◌, ◌≤◌, ◌≡◌, refl, ltb, pos, negsuc, ◌-ℤ◌, ◌≤ℤ◌}
use Rattle.std.proofs.Common.{le_refl, mul-le-mul, mul-le-mul_left, arith, ltb-true, ltb-false, le-ltb, le→leb}
use Rattle.std.proofs.Math.IntN.{sub_ℕ}
use Rattle.std.specs.Int.Signed.{le_z_yes}
use Rattle.tagged.proofs.Theorems.Walk.{by_test}
use Rattle.field_values.specs.Limits.{highest_share}
use Rattle.reconciliation.specs.Reconciliation.{credit_of, used_of, cc_of, not_charged_of, nc_of}
use Rattle.reconciliation.proofs.Theorems.Reconciliation.{subtract_twice}
use Rattle.reconciliation.specs.declared.Costs.{Costs}

-- a difference by its test
difference : (a b : ℕ) → pos a -ℤ pos b ≡ sub_ℕ a b
difference a zero = let whole : a + 0 ≡ a - 0 = omega arith in rw (le-ltb a 0 (omega arith), whole)
difference a (suc b) = refl

difference_rises : (a b c d : ℕ) → a + d ≤ c + b → (pos a -ℤ pos b) ≤ℤ (pos c -ℤ pos d)
difference_rises a b c d h =
    rw (difference a b, difference c d)
    (by_test (λ z. z ≤ℤ sub_ℕ c d) (ltb a b) _ _
    (λ p. by_test (λ z. negsuc (b - suc a) ≤ℤ z) (ltb c d) _ _ (λ q. le_z_yes (le→leb (d - suc c) (b - suc a) (omega (arith, ltb-true a b p, ltb-true c d q)))) (λ _. le_z_yes tt))
    (λ p. by_test (λ z. pos (a - b) ≤ℤ z) (ltb c d) _ _ (λ q. absurd (omega (arith, ltb-false a b p, ltb-true c d q)))
    (λ q. le_z_yes (le→leb (a - b) (c - d) (omega (arith, ltb-false a b p, ltb-false c d q))))))

credit_rises : {ir ir' : ℕ} (share : ℕ) → ir ≤ ir' → credit_of ir share ≤ credit_of ir' share
credit_rises share h = omega (arith, mul-le-mul h (le_refl share))

credit_rises_no_more : {ir ir' share : ℕ} → ir ≤ ir' → share ≤ highest_share → credit_of ir' share ≤ credit_of ir share + (ir' - ir)
credit_rises_no_more {ir} {ir'} {share} h s =
    let more : ir' ≡ ir + (ir' - ir) = omega arith in
    let rise : (ir' - ir) * share ≤ (ir' - ir) * 10000 = mul-le-mul_left (ir' - ir) s in
    rw more (omega arith)

module _ (costs : Costs) {ir ir' : ℕ} (a share : ℕ) (rises : ir ≤ ir') where
  pub cc_never_rises : cc_of costs ir' a share ≤ cc_of costs ir a share
  cc_never_rises = omega (arith, credit_rises share rises)

  pub nc_never_falls : share ≤ highest_share → nc_of costs ir a share ≤ℤ nc_of costs ir' a share
  nc_never_falls s =
      rw (subtract_twice ir (used_of costs ir a share) (not_charged_of costs a), subtract_twice ir' (used_of costs ir' a share) (not_charged_of costs a))
      (difference_rises ir (used_of costs ir a share + not_charged_of costs a) ir' (used_of costs ir' a share + not_charged_of costs a)
      (omega (arith, credit_rises_no_more rises s)))
