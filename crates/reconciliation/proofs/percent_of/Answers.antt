-- Quotient and remainder are those whose remainder isn't negative; the nearest percent is that of the size, with the sign.
use Rattle.std.specs.Prelude.{ℕ, suc, ◌+◌, ◌*◌, ◌-◌, ◌<◌, ◌≡◌, refl, ℤ, pos, negsuc, ◌*ℤ◌, ◌-ℤ◌, ◌<ℤ◌, ◌≤ℤ◌, nat_abs}
use Rattle.std.proofs.Common.{arith, ◌∙◌, sym, ap, add-one, ne_eqb, of_z, to_z}
use Rattle.std.proofs.lemmas.Int.{ints}
use Rattle.std.specs.Int.{int_div_euclid, int_rem_euclid}
use mir.Syntax.{w64}
use mir.ValLaws.{to_z-of_z}
use Rattle.reconciliation.specs.CostLimits.{percent_below}
use Rattle.reconciliation.specs.SignedLimit.{signed_below}
use Rattle.reconciliation.specs.Percent.{rounded, quotient_of, remainder_of, nearest}
use Rattle.reconciliation.proofs.percent_of.Goals as goal
use Rattle.reconciliation.proofs.percent_of.Goals.{then-n-lt0, else-n-lt0}

euclid_quotient : (n : ℤ) (d : ℕ) → int_div_euclid (pos 100 *ℤ n) (pos d) ≡ quotient_of n d
euclid_quotient (pos n) d = refl
euclid_quotient (negsuc n) d =
    let more : 100 * suc n ≡ suc (100 * n + 99) = omega arith in
    let less : suc (100 * n + 99) - 1 ≡ 100 * n + 99 = omega arith in
    rw (more, less, add-one)

euclid_remainder : (n : ℤ) (d : ℕ) → 0 < d → int_rem_euclid (pos 100 *ℤ n) (pos d) ≡ pos (remainder_of n d)
euclid_remainder (pos n) d h = refl
euclid_remainder (negsuc n) d h =
    let more : 100 * suc n ≡ suc (100 * n + 99) = omega arith in
    let less : suc (100 * n + 99) - 1 ≡ 100 * n + 99 = omega arith in
    rw (more, less) (ap pos (omega arith))

below_zero : (n : ℤ) (d : ℕ) → n <ℤ pos 0 → rounded n d ≡ pos 0 -ℤ pos (nearest (nat_abs n) d)
below_zero (pos n) d h = absurd (omega (arith, ints))
below_zero (negsuc n) d h = omega (arith, ints)

not_below_zero : (n : ℤ) (d : ℕ) → pos 0 ≤ℤ n → rounded n d ≡ pos (nearest (nat_abs n) d)
not_below_zero (pos n) d h = refl
not_below_zero (negsuc n) d h = absurd (omega (arith, ints))

hundredfold : (n : ℤ) → nat_abs n < percent_below → to_z w64 (of_z w64 (pos 100 *ℤ n)) ≡ pos 100 *ℤ n
hundredfold (pos n) h = omega (arith, ints)
hundredfold (negsuc n) h = omega (arith, ints)

kept : (x : ℕ) → x < signed_below → to_z w64 (of_z w64 (pos x)) ≡ pos x
kept x h = omega (arith, ints)

negated : (x : ℕ) → x < signed_below → to_z w64 (of_z w64 (pos 0 -ℤ to_z w64 (of_z w64 (pos x)))) ≡ pos 0 -ℤ pos x
negated x h = omega (arith, ints)

pub returns : goal.returns
returns c =
    let n = c.args.n in
    let d = c.args.divisor in
    let n_is = to_z-of_z w64 n c.ranges.n in
    let nearest_is : c.nearest_percent.result ≡ nearest (nat_abs n) d = c.nearest_percent.ensures.0 ∙ rw (c.unsigned_abs.ensures.value, n_is) in
    let size : c.signed-size.result ≡ pos (nearest (nat_abs n) d) = c.signed-size.ensures ∙ ap pos nearest_is in
    let within : nearest (nat_abs n) d < signed_below = rw nearest_is at c.nearest_percent.ensures.1 in
    let whole : to_z w64 c.if-n-lt0.result-bits ≡ rounded n d =
    elim c.if-n-lt0.branch [
      | then-n-lt0 w ↦ w.result-is ∙ rw size (negated _ within ∙ sym (below_zero n d (grind (arith, ints, w.if-n-lt0.true))))
      | else-n-lt0 w ↦ w.result-is ∙ rw size (kept _ within ∙ sym (not_below_zero n d (grind (arith, ints, w.if-n-lt0.false))))
    ] in
    let quotient : c.div_euclid.result ≡ quotient_of n d =
    c.div_euclid.ensures ∙ rw (n_is, hundredfold n c.requires.0, c.signed.ensures, kept d (omega arith)) (euclid_quotient n d) in
    let remainder : c.rem_euclid.result ≡ pos (remainder_of n d) =
    c.rem_euclid.ensures.value ∙ rw (n_is, hundredfold n c.requires.0, c.signed-2.ensures, kept d (omega arith)) (euclid_remainder n d (omega arith)) in
    let quotient_fits = to_z-of_z w64 c.div_euclid.result (record { sfits = c.div_euclid.type_inv }) in
    let remainder_fits = to_z-of_z w64 c.rem_euclid.result (record { sfits = c.rem_euclid.type_inv }) in
    rw (whole, quotient_fits, remainder_fits, quotient, remainder, ne_eqb d 0 c.if-divisor-eq0.false)
