-- Document 02, E10: quotient and remainder of a percentage make up 100 times its numerator, and the rounded percentage follows from them.
use Rattle.std.specs.Prelude.{ℕ, zero, suc, ◌+◌, ◌*◌, ◌-◌, ◌/◌, ◌%◌, ◌≤◌, ◌<◌, ◌≡◌, refl, Bool, true, false, cond, ◌&&◌, ◌||◌, ltb, eqb, ℤ, pos, negsuc, neg_ℤ, ◌+ℤ◌, ◌*ℤ◌}
use Rattle.std.proofs.Common.{sym, ap, subst, ◌∙◌, zero-mul, mod-lt, div-add-mod', add-one, arith, ne_eqb, eqb-true, ltb-true, ltb-false}
use Rattle.std.proofs.Math.Nat.{div-eq_of_lt-le}
use Rattle.std.proofs.lemmas.Bool.{eqb-false}
use Rattle.std.proofs.Math.IntN.{+ℤ_assoc, +ℤ_invl, +ℤ_idr, +ℤ_one, neg_ℤ-+ℤ, pos-+ℤ-pos, pos-*ℤ-pos, zero-*ℤ, pos-*ℤ-negsuc, negsuc-*ℤ-pos}
use Rattle.reconciliation.specs.Percent.{nearest, rounded, rounded_up, quotient_of, remainder_of, percent_of}
use Rattle.reconciliation.specs.Reconciliation.{ic_of, cc_of, nc_of, reconciliation_of}
use Rattle.reconciliation.specs.ExactPercent.{not_negative, rounded_from, Divided, Exact, ExactPercentages}
use Rattle.reconciliation.specs.declared.Costs.{Costs}

-- −(b + r) + r is −b
add_back : (b r : ℕ) → neg_ℤ (pos (b + r)) +ℤ pos r ≡ neg_ℤ (pos b)
add_back b r =
    ap (λ z. z +ℤ pos r) (ap neg_ℤ (sym (pos-+ℤ-pos b r)) ∙ neg_ℤ-+ℤ (pos b) (pos r))
    ∙ +ℤ_assoc (neg_ℤ (pos b)) (neg_ℤ (pos r)) (pos r)
    ∙ ap (λ z. neg_ℤ (pos b) +ℤ z) (+ℤ_invl (pos r))
    ∙ +ℤ_idr (neg_ℤ (pos b))

-- (−m) × n is −(m × n)
negative_times : (m n : ℕ) → neg_ℤ (pos m) *ℤ pos n ≡ neg_ℤ (pos (m * n))
negative_times zero n = zero-*ℤ (pos n) ∙ ap (λ k. neg_ℤ (pos k)) (sym (zero-mul n))
negative_times (suc m) n = negsuc-*ℤ-pos m n

-- rounded up, a size is passed by less than the divisor
pub rounded_up_lem : (n divisor : ℕ) → 0 < n → 0 < divisor → (100 * n ≤ rounded_up n divisor * divisor) × (rounded_up n divisor * divisor < 100 * n + divisor)
rounded_up_lem n divisor more some =
    let whole = div-add-mod' (100 * n - 1) divisor in
    let left = mod-lt (100 * n - 1) some in
    (omega (arith, whole, left), omega (arith, whole, left))

pub divided : (z : ℤ) (divisor : ℕ) → 0 < divisor → Divided z divisor (quotient_of z divisor) (remainder_of z divisor)
divided (pos n) divisor some =
    let q : ℕ = 100 * n / divisor in
    let r : ℕ = 100 * n % divisor in
    record {
      equation = pos-*ℤ-pos 100 n ∙ ap pos (sym (div-add-mod' (100 * n) divisor)) ∙ sym (ap (λ z. z +ℤ pos r) (pos-*ℤ-pos q divisor) ∙ pos-+ℤ-pos (q * divisor) r);
      range = mod-lt (100 * n) some;
    }
divided (negsuc n) divisor some =
    let size : ℕ = rounded_up (suc n) divisor in
    let r : ℕ = size * divisor - 100 * suc n in
    let up = rounded_up_lem (suc n) divisor (omega arith) some in
    let whole : size * divisor ≡ 100 * suc n + r = omega (arith, up.0) in
    record {
      equation =
          pos-*ℤ-negsuc 100 n ∙ sym (ap (λ z. z +ℤ pos r) (negative_times size divisor ∙ ap (λ x. neg_ℤ (pos x)) whole) ∙ add_back (100 * suc n) r);
      range = omega (arith, up.1);
    }

-- ---- the rounded percentage: the nearest of 100 n, above a multiple of the divisor and below one
nearest_above : (n q r divisor : ℕ) → q * divisor + r ≡ 100 * n → r < divisor → (up : ℕ) →
    up * (2 * divisor) ≤ 2 * r + divisor → 2 * r + divisor < (up + 1) * (2 * divisor) → nearest n divisor ≡ q + up
nearest_above n q r divisor e h up low high = div-eq_of_lt-le (2 * divisor) (omega arith) (omega arith)

nearest_below : (n k r divisor : ℕ) → suc k * divisor ≡ 100 * n + r → r < divisor → (up : ℕ) →
    up * (2 * divisor) + 2 * r ≤ 3 * divisor → 3 * divisor < (up + 1) * (2 * divisor) + 2 * r → nearest n divisor ≡ k + up
nearest_below n k r divisor e h up low high = div-eq_of_lt-le (2 * divisor) (omega arith) (omega arith)

one_up : (k : ℕ) → neg_ℤ (pos k) ≡ negsuc k +ℤ pos 1
one_up zero = refl
one_up (suc k) = sym (+ℤ_one (negsuc (suc k)))

pub rounded_from_lem : (z : ℤ) (divisor : ℕ) → 0 < divisor → rounded z divisor ≡ rounded_from (quotient_of z divisor) (remainder_of z divisor) divisor
rounded_from_lem (pos n) divisor some = by (ltb divisor (2 * r)) refl (eqb (2 * r) divisor) refl
  where
    q : ℕ
    q = 100 * n / divisor

    r : ℕ
    r = 100 * n % divisor

    at : (up : ℕ) → up * (2 * divisor) ≤ 2 * r + divisor → 2 * r + divisor < (up + 1) * (2 * divisor) → nearest n divisor ≡ q + up
    at = nearest_above n q r divisor (div-add-mod' (100 * n) divisor) (mod-lt (100 * n) some)

    by : (above : Bool) → ltb divisor (2 * r) ≡ above → (half : Bool) → eqb (2 * r) divisor ≡ half →
        pos (nearest n divisor) ≡ cond (above || (half && not_negative (pos q))) (pos q +ℤ pos 1) (pos q)
    by true t half e = ap pos (at 1 (omega (arith, ltb-true divisor (2 * r) t)) (omega (arith, mod-lt (100 * n) some))) ∙ sym (pos-+ℤ-pos q 1)
    by false t true e = ap pos (at 1 (omega (arith, eqb-true (2 * r) divisor e)) (omega (arith, mod-lt (100 * n) some))) ∙ sym (pos-+ℤ-pos q 1)
    by false t false e =
        ap pos (at 0 (omega arith) (omega (arith, ltb-false divisor (2 * r) t, eqb-false (2 * r) divisor e)) ∙ omega arith)
rounded_from_lem (negsuc n) divisor some =
    subst (λ (quotient : ℤ). rounded (negsuc n) divisor ≡ rounded_from quotient r divisor) (sym below) (by (ltb divisor (2 * r)) refl (eqb (2 * r) divisor))
  where
    k : ℕ
    k = (100 * suc n - 1) / divisor

    r : ℕ
    r = rounded_up (suc n) divisor * divisor - 100 * suc n

    below : quotient_of (negsuc n) divisor ≡ negsuc k
    below = ap (λ m. neg_ℤ (pos m)) (add-one k)

    up : (100 * suc n ≤ rounded_up (suc n) divisor * divisor) × (rounded_up (suc n) divisor * divisor < 100 * suc n + divisor)
    up = rounded_up_lem (suc n) divisor (omega arith) some

    at : (up : ℕ) → up * (2 * divisor) + 2 * r ≤ 3 * divisor → 3 * divisor < (up + 1) * (2 * divisor) + 2 * r → nearest (suc n) divisor ≡ k + up
    at = nearest_below (suc n) k r divisor (omega (arith, up.0)) (omega (arith, up.1))

    stays : (half : Bool) → negsuc k ≡ cond (half && not_negative (negsuc k)) (negsuc k +ℤ pos 1) (negsuc k)
    stays true = refl
    stays false = refl

    by : (above : Bool) → ltb divisor (2 * r) ≡ above → (half : Bool) →
        neg_ℤ (pos (nearest (suc n) divisor)) ≡ cond (above || (half && not_negative (negsuc k))) (negsuc k +ℤ pos 1) (negsuc k)
    by true t half =
        let is : nearest (suc n) divisor ≡ k = at 0 (omega (arith, up.1)) (omega (arith, ltb-true divisor (2 * r) t)) ∙ omega arith in
        ap (λ m. neg_ℤ (pos m)) is ∙ one_up k
    by false t half =
        let is : nearest (suc n) divisor ≡ suc k = at 1 (omega (arith, ltb-false divisor (2 * r) t)) (omega arith) ∙ omega arith in
        ap (λ m. neg_ℤ (pos m)) is ∙ stays half

percent_exact : (z : ℤ) (divisor : ℕ) → Exact z divisor (percent_of z divisor)
percent_exact z zero = refl
percent_exact z (suc d) = rw (ne_eqb (suc d) 0 (λ e. omega arith)) (divided z (suc d) (omega arith), rounded_from_lem z (suc d) (omega arith))

pub percentages_exact : (costs : Costs) (ir a share : ℕ) → ExactPercentages (reconciliation_of costs ir a share)
percentages_exact costs ir a share =
    let cc = cc_of costs ir a share in
    record {
      reliance = percent_exact (pos cc) (ic_of costs);
      upfront = percent_exact (pos cc) (cc + ir);
      nc_ratio = percent_exact (nc_of costs ir a share) (cc + ir);
    }
