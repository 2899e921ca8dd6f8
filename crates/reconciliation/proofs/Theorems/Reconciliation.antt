-- The charge and what the company bears make up the cost entered, and the bounds that a ledger needs.
use Rattle.std.specs.Prelude.{ℕ, zero, suc, ◌+◌, ◌*◌, ◌-◌, ◌/◌, ◌<◌, ◌≤◌, ◌≡◌, refl, Bool, true, false, cond, eqb, ltb, ℤ, pos, negsuc, neg_ℤ, nat_abs, ◌+ℤ◌, ◌-ℤ◌}
use Rattle.std.proofs.Common.{ap, sym, subst, ◌∙◌, mul-le-mul_left, div-le_self, div-lt_iff_lt-mul, arith, ne_eqb}
use Rattle.std.proofs.Math.IntN.{+ℤ_assoc, +ℤ_comm, neg_ℤ-+ℤ, neg_ℤ-neg_ℤ, pos-+ℤ-pos}
use Rattle.field_values.specs.Limits.{highest_share}
use Rattle.revenue.specs.RevenueLimits.{highest_incremental_revenue}
use Rattle.reconciliation.specs.Percent.{nearest, rounded, rounded_up, quotient_of, percent_of}
use Rattle.reconciliation.specs.Reconciliation.{ic_of, used_of, cc_of, not_charged_of, nic_of, nc_of, entered_of, borne_of, reconciliation_of}
use Rattle.reconciliation.specs.FigureLimits.{highest_divisor, PercentWithin, RemainderWithin, FiguresWithin}
use Rattle.reconciliation.specs.CostLimits.{CostsWithin}
use Rattle.reconciliation.proofs.Theorems.ExactPercent.{divided}
use Rattle.reconciliation.specs.declared.Costs.{Costs}

-- the number of a byte that is 1 or 0, told as whether it is 1
pub a_of : (a : ℕ) → a ≤ 1 → cond (eqb a 1) 1 0 ≡ a
a_of zero h = refl
a_of (suc zero) h = refl
a_of (suc (suc a)) h = omega arith

-- a − b − c is a − (b + c)
pub subtract_twice : (a b c : ℕ) → pos a -ℤ pos b -ℤ pos c ≡ pos a -ℤ pos (b + c)
subtract_twice a b c =
    +ℤ_assoc (pos a) (neg_ℤ (pos b)) (neg_ℤ (pos c))
    ∙ ap (λ z. pos a +ℤ z) (sym (neg_ℤ-+ℤ (pos b) (pos c)) ∙ ap neg_ℤ (pos-+ℤ-pos b c))

-- a − (b − c) is a + c − b
subtract_difference : (a b c : ℕ) → pos a -ℤ (pos b -ℤ pos c) ≡ pos (a + c) -ℤ pos b
subtract_difference a b c =
    ap
    (λ z. pos a +ℤ z)
    (neg_ℤ-+ℤ (pos b) (neg_ℤ (pos c)) ∙ ap (λ z. neg_ℤ (pos b) +ℤ z) (neg_ℤ-neg_ℤ (pos c)) ∙ +ℤ_comm (neg_ℤ (pos b)) (pos c))
    ∙ sym (+ℤ_assoc (pos a) (pos c) (neg_ℤ (pos b)))
    ∙ ap (λ z. z -ℤ pos b) (pos-+ℤ-pos a c)

-- CC, the credit used and the capacity that isn't charged make up IC
ic_in_two : (costs : Costs) (ir a share : ℕ) → a ≤ 1 → cc_of costs ir a share + (used_of costs ir a share + not_charged_of costs a) ≡ ic_of costs
ic_in_two costs ir zero share h = omega arith
ic_in_two costs ir (suc zero) share h = omega arith
ic_in_two costs ir (suc (suc a)) share h = omega arith

-- CC and the cost borne make up the cost entered, and CC − NC is NIC
pub reconciles :
    (costs : Costs)
    (ir a share : ℕ)
    → a ≤ 1
    → (cc_of costs ir a share + borne_of costs ir a share ≡ entered_of costs)
    × (pos (cc_of costs ir a share) -ℤ nc_of costs ir a share ≡ nic_of costs ir)
reconciles costs ir a share h =
    let parts = ic_in_two costs ir a share h in (
      omega (arith, parts),
      ap (λ z. pos (cc_of costs ir a share) -ℤ z) (subtract_twice ir (used_of costs ir a share) (not_charged_of costs a))
          ∙ subtract_difference (cc_of costs ir a share) ir (used_of costs ir a share + not_charged_of costs a)
          ∙ ap (λ n. pos n -ℤ pos ir) parts,
    )

difference_size : (a b limit : ℕ) → a ≤ limit → b ≤ limit → nat_abs (pos a -ℤ pos b) ≤ limit
difference_size a zero limit h k = omega arith
difference_size a (suc b) limit h k = by (ltb a (suc b))
  where
    by : (t : Bool) → nat_abs (cond t (negsuc (suc b - suc a)) (pos (a - suc b))) ≤ limit
    by true = omega arith
    by false = omega arith

size_of_negative : (n : ℕ) → nat_abs (neg_ℤ (pos n)) ≡ n
size_of_negative zero = refl
size_of_negative (suc n) = refl

rounded_size : (z : ℤ) (divisor : ℕ) → nat_abs (rounded z divisor) ≡ nearest (nat_abs z) divisor
rounded_size (pos n) divisor = refl
rounded_size (negsuc n) divisor = size_of_negative (nearest (suc n) divisor)

-- a part is at most 100 percent of its whole, and no percentage more than that of a divisor of 1
part_percent : (n divisor : ℕ) → 0 < divisor → n ≤ divisor → nearest n divisor ≤ 100
part_percent n divisor some h = omega (arith, (div-lt_iff_lt-mul {k = 2 * divisor} {x = 200 * n + divisor} {y = 101} (omega arith)).1 (omega arith))

any_percent : (n divisor limit : ℕ) → 0 < divisor → n ≤ limit → nearest n divisor ≤ 100 * limit
any_percent n divisor limit some h =
    let whole : limit * 1 ≤ limit * divisor = mul-le-mul_left limit some in
    omega (arith, (div-lt_iff_lt-mul {k = 2 * divisor} {x = 200 * n + divisor} {y = 100 * limit + 1} (omega arith)).1 (omega arith))

-- rounded down, the same bounds hold
part_quotient : (n divisor : ℕ) → 0 < divisor → n ≤ divisor → 100 * n / divisor ≤ 100
part_quotient n divisor some h = omega (arith, (div-lt_iff_lt-mul {k = divisor} {x = 100 * n} {y = 101} some).1 (omega arith))

any_quotient : (z : ℤ) (divisor limit : ℕ) → nat_abs z ≤ limit → nat_abs (quotient_of z divisor) ≤ 100 * limit
any_quotient (pos n) divisor limit h = omega (arith, div-le_self (100 * n) divisor)
any_quotient (negsuc n) divisor limit h = rw (size_of_negative (rounded_up (suc n) divisor)) (omega (arith, div-le_self (100 * suc n - 1) divisor))

percent_within : (z : ℤ) (divisor limit : ℕ) → (0 < divisor → (nearest (nat_abs z) divisor ≤ limit) × (nat_abs (quotient_of z divisor) ≤ limit)) →
    PercentWithin limit (percent_of z divisor)
percent_within z zero limit small = tt
percent_within z (suc d) limit small =
    rw (ne_eqb (suc d) 0 (λ e. omega arith))
    (subst (λ (n : ℕ). n ≤ limit) (sym (rounded_size z (suc d))) (small (omega arith)).0, (small (omega arith)).1)

remainder_within : (z : ℤ) (divisor : ℕ) → divisor ≤ highest_divisor → RemainderWithin (percent_of z divisor)
remainder_within z zero h = tt
remainder_within z (suc d) h = rw (ne_eqb (suc d) 0 (λ e. omega arith)) (omega (arith, (divided z (suc d) (omega arith)).range))

pub reconciliation_bounded :
    {costs : Costs}
    {ir a share : ℕ}
    → CostsWithin costs
    → ir ≤ highest_incremental_revenue
    → a ≤ 1
    → share ≤ highest_share
    → FiguresWithin (reconciliation_of costs ir a share)
reconciliation_bounded {costs} {ir} {a} {share} w i h s =
    let whole = reconciles costs ir a share h in
    let cc = cc_of costs ir a share in
    let borne : used_of costs ir a share + not_charged_of costs a ≤ highest_incremental_revenue = omega (arith, whole.0) in
    let nc : nat_abs (nc_of costs ir a share) ≤ highest_incremental_revenue =
    rw (subtract_twice ir (used_of costs ir a share) (not_charged_of costs a)) (difference_size ir _ _ i borne) in
    record {
      parts = refl;
      ic = omega arith;
      ir = i;
      x = omega arith;
      cc = omega (arith, whole.0);
      borne = omega (arith, whole.0);
      entered = sym whole.0;
      net = whole.1;
      nic = difference_size (ic_of costs) ir _ (omega arith) i;
      nc = nc;
      reliance =
          percent_within (pos cc) (ic_of costs) 100
          (λ some. (part_percent cc (ic_of costs) some (omega (arith, whole.0)), part_quotient cc (ic_of costs) some (omega (arith, whole.0))));
      upfront =
          percent_within (pos cc) (cc + ir) 100 (λ some. (part_percent cc (cc + ir) some (omega arith), part_quotient cc (cc + ir) some (omega arith)));
      nc_ratio =
          percent_within (nc_of costs ir a share) (cc + ir) _
          (λ some. (any_percent _ (cc + ir) highest_incremental_revenue some nc, any_quotient (nc_of costs ir a share) (cc + ir) highest_incremental_revenue nc));
      reliance_remainder = remainder_within (pos cc) (ic_of costs) (omega arith);
      upfront_remainder = remainder_within (pos cc) (cc + ir) (omega (arith, whole.0));
      nc_ratio_remainder = remainder_within (nc_of costs ir a share) (cc + ir) (omega (arith, whole.0));
    }
