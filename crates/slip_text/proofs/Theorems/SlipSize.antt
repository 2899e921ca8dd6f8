-- How long a slip of two files is at most: by the limits of the figures, with every line at its longest.
use Rattle.std.specs.Prelude.{ℕ, suc, ◌+◌, ◌*◌, ◌/◌, ◌%◌, ◌^◌, ◌≤◌, ◌<◌, ◌≡◌, refl, Bool, true, false, cond, eqb, ℤ, pos, negsuc, nat_abs, length, Err, None, Ok, Some}
use Rattle.std.proofs.Common.{subst, arith, length-append}
use mathlib.Core.List.{List, flatten}
use Rattle.numbers.specs.BigEndian.{Bytes}
use Rattle.reconciliation.specs.Percent.{nearest, whole_of, percent_of, Percent}
use Rattle.reconciliation.specs.Reconciliation.{reconciliation_of}
use Rattle.reconciliation.specs.FigureLimits.{PercentWithin, RemainderWithin, FiguresWithin}
use Rattle.reconciliation.specs.declared.Costs.{Costs}
use Rattle.charge.specs.Price.{price_of, Pricing}
use Rattle.charge.proofs.Theorems.Bill.{priced_by, priced_within}
use Rattle.charge.specs.declared.Bill.{Bill}
use Rattle.slip_text.specs.Slip.{decimal, signed_decimal, percent_text, exact_text, reconciliation_lines, slip_of}
use Rattle.slip_text.specs.SlipRoom.{longest_slip}
use Rattle.slip_text.proofs.Theorems.Slip.{decimal_short, decimal_within}

signed_within : (most : ℕ) (z : ℤ) → nat_abs z < 10 ^ suc most → nat_abs z < 10 ^ 20 → length (signed_decimal z) ≤ suc (suc most)
signed_within most (pos n) h b = omega (arith, decimal_within most n h b)
signed_within most (negsuc n) h b = omega (arith, decimal_within most (suc n) h b)

-- a remainder has 13 digits
remainder_fits : (n : ℕ) → RemainderWithin (Some (record { rounded = pos 0; quotient = pos 0; remainder = n })) → length (decimal n) ≤ 13
remainder_fits n h = decimal_within 12 n (omega (arith, h)) (omega (arith, h))

-- a part's percentage has 3 digits and no sign
part_fits : (n divisor : ℕ) → PercentWithin 100 (percent_of (pos n) divisor) → RemainderWithin (percent_of (pos n) divisor) →
    (length (percent_text (percent_of (pos n) divisor)) ≤ 3) × (length (exact_text (percent_of (pos n) divisor)) ≤ 17)
part_fits n divisor = by (eqb divisor 0)
  where
    by : (t : Bool) → PercentWithin 100 (cond t None (Some (whole_of (pos n) divisor))) → RemainderWithin (cond t None (Some (whole_of (pos n) divisor))) →
        (length (percent_text (cond t None (Some (whole_of (pos n) divisor)))) ≤ 3) × (length (exact_text (cond t None (Some (whole_of (pos n) divisor)))) ≤ 17)
    by true within left = (omega arith, omega arith)
    by false within left =
        let quotient = decimal_within 2 (100 * n / divisor) (omega (arith, within.1)) (omega (arith, within.1)) in (
          decimal_within 2 (nearest n divisor) (omega (arith, within.0)) (omega (arith, within.0)),
          simp length-append (omega (arith, quotient, remainder_fits (100 * n % divisor) left)),
        )

-- any percentage has 15 digits and a sign
percent_fits : (limit : ℕ) → limit < 10 ^ 15 → (p : Percent) → PercentWithin limit p → RemainderWithin p → (length (percent_text p) ≤ 16) × (length (exact_text p) ≤ 30)
percent_fits limit small (Some p) within left = (
  signed_within 14 p.rounded (omega (arith, within.0)) (omega (arith, within.0)),
  simp length-append (omega (arith, signed_within 14 p.quotient (omega (arith, within.1)) (omega (arith, within.1)), remainder_fits p.remainder left)),
)
percent_fits limit small None within left = (omega arith, omega arith)

reconciliation_fits : (costs : Costs) (ir a share : ℕ) → FiguresWithin (reconciliation_of costs ir a share) →
    length (flatten (reconciliation_lines (reconciliation_of costs ir a share))) ≤ longest_slip
unfolding flatten
reconciliation_fits costs ir a share within =
    let r = reconciliation_of costs ir a share in
    let cc = decimal_within 12 r.cc (omega arith) (omega arith) in
    let ic = decimal_within 12 r.ic (omega arith) (omega arith) in
    let ir = decimal_within 12 r.ir (omega arith) (omega arith) in
    let nic = signed_within 12 r.nic (omega arith) (omega arith) in
    let nc = signed_within 12 r.nc (omega arith) (omega arith) in
    let reliance = part_fits r.cc r.ic within.reliance within.reliance_remainder in
    let upfront = part_fits r.cc (r.cc + r.ir) within.upfront within.upfront_remainder in
    let ratio = percent_fits _ (omega arith) r.nc_ratio within.nc_ratio within.nc_ratio_remainder in
    simp length-append (omega (arith, cc, ic, ir, nic, nc, reliance.0, reliance.1, upfront.0, upfront.1, ratio.0, ratio.1))

-- every slip of two files, priced or refused
pub longest_slip_lem : (book request : List ℕ) → Bytes book → Bytes request → length (slip_of (price_of book request)) ≤ longest_slip
unfolding slip_of
longest_slip_lem book request bytes bytes' = by (price_of book request) refl
  where
    priced : (bill : Bill) → price_of book request ≡ Ok bill → length (slip_of (Ok bill)) ≤ longest_slip
    priced bill e =
        let is = (priced_by book request bill e).is in
        let within = subst (λ (b : Bill). FiguresWithin b.reconciliation) is (priced_within book request bill bytes bytes' e).figures in
        rw is (reconciliation_fits _ _ _ _ within)

    by : (pricing : Pricing) → price_of book request ≡ pricing → length (slip_of pricing) ≤ longest_slip
    by (Ok bill) e = priced bill e
    by (Err r) e =
        simp length-append (omega (arith, decimal_short r.number, decimal_short r.file, decimal_short r.place))
