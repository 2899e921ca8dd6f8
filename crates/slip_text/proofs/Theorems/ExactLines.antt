-- What the three lines of quotient and remainder say: numbers that satisfy the equation, or `-` where the divisor is 0, and nothing else.
use Prim.Native.Nat.{ℕ, zero, suc, ◌+◌, ◌*◌, ◌-◌, ◌/◌, ◌%◌, ◌^◌, ◌≤◌, ◌<◌}
use Rattle.std.specs.Prelude.{◌≡◌, Bool, ltb, eqb, ℤ, pos, negsuc, neg_ℤ, nat_abs, None, Ok, Some}
use Rattle.std.proofs.Math.Path.{refl, ap}
use Rattle.std.proofs.Common.{sym, subst, ◌∙◌, arith, eq-eqb, ne_eqb}
use Rattle.std.proofs.Math.Bool.{true, false, cond}
use mathlib.Core.List.{List, [], ◌∷◌, ◌++◌, append_assoc, foldl, flatten}
use Rattle.tagged.proofs.Theorems.Impossible.{impossible}
use Rattle.numbers.specs.BigEndian.{Bytes}
use Rattle.reconciliation.specs.ExactPercent.{Exact, ExactPercentages}
use Rattle.reconciliation.specs.FigureLimits.{PercentWithin, RemainderWithin, FiguresWithin}
use Rattle.reconciliation.specs.Percent.{Percent}
use Rattle.reconciliation.specs.declared.Reconciliation.{Reconciliation}
use Rattle.charge.specs.Price.{price_of}
use Rattle.charge.proofs.Theorems.Bill.{priced_within, priced_percentages_exact}
use Rattle.charge.specs.declared.Bill.{Bill}
use Rattle.slip_text.specs.Slip.{decimal_from, decimal, signed_decimal, percent_text, exact_text, line, exact_lines, reconciliation_lines, slip_of}
use Rattle.slip_text.specs.SlipReading.{ascii}
use Rattle.slip_text.specs.ExactLines.{before, after, line_of, DigitsAfter, end, digit, UnsignedNumber, lone_zero, digits, SignedNumber, not_negative, negative, Says, quotient_and_remainder, no_percentage, ExactLine, pair, dash, LineExact, SlipExact}
use Rattle.slip_text.proofs.Theorems.Slip.{digits_induction}

-- ---- parts before and after a byte

-- no such byte among these
unfoldable pub without : ℕ → List ℕ → Bool
without byte [] = true
without byte (b ∷ bytes) = cond (eqb b byte) false (without byte bytes)

module _ (byte : ℕ) where
  pub before_at : (a c : List ℕ) → without byte a ≡ true → before byte (a ++ (byte ∷ c)) ≡ a
  unfolding without before
  before_at [] c h = rw (eq-eqb byte byte refl)
  before_at (b ∷ a) c h = by (eqb b byte) (before_at a c) h
    where
      by : (t : Bool) → (without byte a ≡ true → before byte (a ++ (byte ∷ c)) ≡ a) →
          cond t false (without byte a) ≡ true → cond t [] (b ∷ before byte (a ++ (byte ∷ c))) ≡ b ∷ a
      by true later e = impossible cc
      by false later e = ap (λ (l : List ℕ). b ∷ l) (later e)

  pub after_at : (a c : List ℕ) → without byte a ≡ true → after byte (a ++ (byte ∷ c)) ≡ c
  unfolding without after
  after_at [] c h = rw (eq-eqb byte byte refl)
  after_at (b ∷ a) c h = by (eqb b byte) (after_at a c) h
    where
      by : (t : Bool) → (without byte a ≡ true → after byte (a ++ (byte ∷ c)) ≡ c) →
          cond t false (without byte a) ≡ true → cond t (a ++ (byte ∷ c)) (after byte (a ++ (byte ∷ c))) ≡ c
      by true later e = impossible cc
      by false later e = later e

  pub found_at : (a c : List ℕ) → without byte (a ++ (byte ∷ c)) ≡ false
  unfolding without
  found_at [] c = rw (eq-eqb byte byte refl)
  found_at (b ∷ a) c = by (eqb b byte) (found_at a c)
    where
      by : (t : Bool) → without byte (a ++ (byte ∷ c)) ≡ false → cond t false (without byte (a ++ (byte ∷ c))) ≡ false
      by true later = refl
      by false later = later

  without_both : (a c : List ℕ) → without byte a ≡ true → without byte c ≡ true → without byte (a ++ c) ≡ true
  unfolding without
  without_both [] c h k = k
  without_both (b ∷ a) c h k = by (eqb b byte) (λ e. without_both a c e k) h
    where
      by : (t : Bool) → (without byte a ≡ true → without byte (a ++ c) ≡ true) → cond t false (without byte a) ≡ true → cond t false (without byte (a ++ c)) ≡ true
      by true later e = e
      by false later e = later e

  without_one : (b : ℕ) → (b ≡ byte → ⊥) → without byte (b ∷ []) ≡ true
  unfolding without
  without_one b other = rw (ne_eqb b byte other)

  -- no digit is below 48
  digits_without : byte < 48 → (most n : ℕ) → without byte (decimal_from most n) ≡ true
  unfolding without decimal_from
  digits_without small zero n = refl
  digits_without small (suc most) n = by (ltb n 10) (digits_without small most (n / 10))
    where
      by : (t : Bool) → without byte (decimal_from most (n / 10)) ≡ true →
          without byte (cond t ((48 + n) ∷ []) (decimal_from most (n / 10) ++ ((48 + n % 10) ∷ []))) ≡ true
      by true ih = without_one (48 + n) (λ e. omega arith)
      by false ih = without_both (decimal_from most (n / 10)) ((48 + n % 10) ∷ []) ih (without_one (48 + n % 10) (λ e. omega arith))

  signed_without : byte < 45 → (z : ℤ) → without byte (signed_decimal z) ≡ true
  signed_without small (pos n) = digits_without (omega arith) 20 n
  signed_without small (negsuc n) = without_both (45 ∷ []) (decimal (suc n)) (without_one 45 (λ e. omega arith)) (digits_without (omega arith) 20 (suc n))

  percent_without : byte < 45 → (p : Percent) → without byte (percent_text p) ≡ true
  percent_without small (Some p) = signed_without small p.rounded
  percent_without small None = without_one 45 (λ e. omega arith)

exact_without_end : (p : Percent) → without 10 (exact_text p) ≡ true
exact_without_end (Some p) =
    without_both 10 (signed_decimal p.quotient) (32 ∷ decimal p.remainder) (signed_without 10 (omega arith) p.quotient)
    (without_both 10 (32 ∷ []) (decimal p.remainder) (without_one 10 32 (λ e. omega arith)) (digits_without 10 (omega arith) 20 p.remainder))
exact_without_end None = without_one 10 45 (λ e. omega arith)

-- ---- what is written for a number is in the grammar
one_more : {n m : ℕ} {rest : List ℕ} (d : ℕ) → d < 10 → DigitsAfter n rest m → DigitsAfter n (rest ++ ((48 + d) ∷ [])) (m * 10 + d)
one_more d h (end n) = digit n d _ [] h (end _)
one_more d h (digit n e m rest p more) = digit n e _ _ p (one_more d h more)

last_digit : (n : ℕ) (ds : List ℕ) → 10 ≤ n → UnsignedNumber ds (n / 10) → UnsignedNumber (ds ++ ((48 + n % 10) ∷ [])) n
last_digit n ds h number = on (n / 10) refl number
  where
    on : (tenth : ℕ) {ds : List ℕ} → n / 10 ≡ tenth → UnsignedNumber ds tenth → UnsignedNumber (ds ++ ((48 + n % 10) ∷ [])) n
    on tenth e lone_zero = absurd (omega arith)
    on tenth e (digits d m rest some p after) =
        let value : tenth * 10 + n % 10 ≡ n = omega arith in
        digits d n (rest ++ ((48 + n % 10) ∷ [])) some p (subst (DigitsAfter d (rest ++ ((48 + n % 10) ∷ []))) value (one_more (n % 10) (omega arith) after))

first_digit_of : (n : ℕ) → n < 10 → UnsignedNumber ((48 + n) ∷ []) n
first_digit_of zero h = lone_zero
first_digit_of (suc n) h = digits (suc n) (suc n) [] (omega arith) h (end (suc n))

pub decimal_stands : (n : ℕ) → n < 10 ^ 20 → UnsignedNumber (decimal n) n
decimal_stands n h = digits_induction (λ n ds. UnsignedNumber ds n) first_digit_of last_digit 19 n h

pub signed_stands : (z : ℤ) → nat_abs z < 10 ^ 20 → SignedNumber (signed_decimal z) z
signed_stands (pos n) h = not_negative n (decimal n) (decimal_stands n h)
signed_stands (negsuc n) h = negative n (decimal (suc n)) (decimal_stands (suc n) h)

-- ---- what is in the grammar has one value, which a reader finds
abbrev read_decimal : List ℕ → ℕ
read_decimal ds = foldl (λ (n d : ℕ). n * 10 + (d - 48)) 0 ds

abbrev read_signed : List ℕ → ℤ
read_signed [] = pos 0
read_signed (d ∷ ds) = cond (eqb d 45) (neg_ℤ (pos (read_decimal ds))) (pos (read_decimal (d ∷ ds)))

digits_read : {n m : ℕ} {rest : List ℕ} → DigitsAfter n rest m → foldl (λ (n d : ℕ). n * 10 + (d - 48)) n rest ≡ m
digits_read (end n) = refl
digits_read (digit n d m rest p more) = ap (λ k. foldl (λ (n d : ℕ). n * 10 + (d - 48)) k rest) (omega arith) ∙ digits_read more

unsigned_read : {n : ℕ} {bytes : List ℕ} → UnsignedNumber bytes n → read_decimal bytes ≡ n
unsigned_read lone_zero = refl
unsigned_read (digits d n rest some p after) = ap (λ k. foldl (λ (n d : ℕ). n * 10 + (d - 48)) k rest) (omega arith) ∙ digits_read after

signed_read : {z : ℤ} {bytes : List ℕ} → SignedNumber bytes z → read_signed bytes ≡ z
signed_read (negative n bytes number) = ap (λ k. neg_ℤ (pos k)) (unsigned_read number)
signed_read (not_negative n bytes number) = plain number
  where
    plain : {n : ℕ} {bytes : List ℕ} → UnsignedNumber bytes n → read_signed bytes ≡ pos n
    plain lone_zero = refl
    plain (digits d n rest some p after) =
        rw (ne_eqb (48 + d) 45 (λ e. omega arith)) (ap pos (unsigned_read (digits d n rest some p after)))

-- a printed number is in the grammar as itself, and as no other; so is a figure with its sign
pub decimal_one_way : (n : ℕ) → n < 10 ^ 20 → UnsignedNumber (decimal n) n × ((other : ℕ) → UnsignedNumber (decimal n) other → other ≡ n)
decimal_one_way n h = let stands = decimal_stands n h in (stands, λ other others. sym (unsigned_read others) ∙ unsigned_read stands)

pub signed_one_way : (z : ℤ) → nat_abs z < 10 ^ 20 → SignedNumber (signed_decimal z) z × ((other : ℤ) → SignedNumber (signed_decimal z) other → other ≡ z)
signed_one_way z h = let stands = signed_stands z h in (stands, λ other others. sym (signed_read others) ∙ signed_read stands)

-- no number has a blank
digits_plain : {n m : ℕ} {rest : List ℕ} → DigitsAfter n rest m → without 32 rest ≡ true
unfolding without
digits_plain (end n) = refl
digits_plain (digit n d m rest p more) = rw (ne_eqb (48 + d) 32 (λ e. omega arith)) (digits_plain more)

unsigned_plain : {n : ℕ} {bytes : List ℕ} → UnsignedNumber bytes n → without 32 bytes ≡ true
unfolding without
unsigned_plain lone_zero = refl
unsigned_plain (digits d n rest some p after) = rw (ne_eqb (48 + d) 32 (λ e. omega arith)) (digits_plain after)

pub signed_plain : {z : ℤ} {bytes : List ℕ} → SignedNumber bytes z → without 32 bytes ≡ true
unfolding without
signed_plain (not_negative n bytes number) = unsigned_plain number
signed_plain (negative n bytes number) = unsigned_plain number

abbrev said_read : List ℕ → Says
said_read said = cond (without 32 said) no_percentage (quotient_and_remainder (read_signed (before 32 said)) (read_decimal (after 32 said)))

line_read : {name line : List ℕ} {says : Says} → without 32 name ≡ true → ExactLine name line says → said_read (after 32 line) ≡ says
unfolding without
line_read {name} plain (pair quotient remainder q r signed unsigned) =
    let alone = signed_plain signed in
    rw (after_at 32 name (q ++ (32 ∷ r)) plain, found_at 32 q r, before_at 32 q r alone, after_at 32 q r alone, signed_read signed, unsigned_read unsigned) refl
line_read {name} plain dash = rw (after_at 32 name (45 ∷ []) plain) refl

-- ---- a line
line_says : (name : List ℕ) (numerator : ℤ) (divisor limit : ℕ) → without 32 name ≡ true → limit < 10 ^ 20 →
    (p : Percent) → Exact numerator divisor p → PercentWithin limit p → RemainderWithin p → LineExact (name ++ (32 ∷ exact_text p)) name numerator divisor
line_says name numerator divisor limit plain small p exact within left = by p exact within left
  where
    only : {line : List ℕ} {says : Says} → ExactLine name line says → (other : Says) → ExactLine name line other → other ≡ says
    only stands other others = sym (line_read plain others) ∙ line_read plain stands

    by : (p : Percent) → Exact numerator divisor p → PercentWithin limit p → RemainderWithin p → LineExact (name ++ (32 ∷ exact_text p)) name numerator divisor
    by (Some p) exact within left =
        let stands : ExactLine name (name ++ (32 ∷ exact_text (Some p))) (quotient_and_remainder p.quotient p.remainder) =
        pair p.quotient p.remainder (signed_decimal p.quotient) (decimal p.remainder) (signed_stands p.quotient (omega (arith, within.1))) (decimal_stands p.remainder (omega (arith, left))) in
        record { says = quotient_and_remainder p.quotient p.remainder; stands = stands; only = only stands; exact = exact.0 }
    by None exact within left = record { says = no_percentage; stands = dash; only = only dash; exact = exact }

-- ---- the lines of a slip
module _ (label figure rest : List ℕ) (labelled : without 10 label ≡ true) (figured : without 10 figure ≡ true) where
  one_line : line label figure ++ rest ≡ (label ++ (32 ∷ figure)) ++ (10 ∷ rest)
  one_line = simp append_assoc

  no_end : without 10 (label ++ (32 ∷ figure)) ≡ true
  no_end = without_both 10 label (32 ∷ figure) labelled (without_both 10 (32 ∷ []) figure (without_one 10 32 (λ e. omega arith)) figured)

  this_line : line_of 0 (line label figure ++ rest) ≡ label ++ (32 ∷ figure)
  unfolding line_of
  this_line = ap (before 10) one_line ∙ before_at 10 (label ++ (32 ∷ figure)) rest no_end

  next_line : (i : ℕ) → line_of (suc i) (line label figure ++ rest) ≡ line_of i rest
  unfolding line_of
  next_line i = ap (λ (text : List ℕ). line_of i (after 10 text)) one_line ∙ ap (line_of i) (after_at 10 (label ++ (32 ∷ figure)) rest no_end)

module _ (r : Reconciliation) where
  digits_end : (n : ℕ) → without 10 (decimal n) ≡ true
  digits_end n = digits_without 10 (omega arith) 20 n

  sign_end : (z : ℤ) → without 10 (signed_decimal z) ≡ true
  sign_end z = signed_without 10 (omega arith) z

  percent_end : (p : Percent) → without 10 (percent_text p) ≡ true
  percent_end p = percent_without 10 (omega arith) p

  -- past the first eight lines are the three
  past_eight : (i : ℕ) → line_of (suc (suc (suc (suc (suc (suc (suc (suc i)))))))) (flatten (reconciliation_lines r)) ≡ line_of i (flatten (exact_lines r))
  unfolding flatten without
  past_eight i =
      next_line (ascii "CC") (decimal r.cc) _ refl (digits_end r.cc) _
      ∙ next_line (ascii "IC") (decimal r.ic) _ refl (digits_end r.ic) _
      ∙ next_line (ascii "IR") (decimal r.ir) _ refl (digits_end r.ir) _
      ∙ next_line (ascii "NIC") (signed_decimal r.nic) _ refl (sign_end r.nic) _
      ∙ next_line (ascii "NC") (signed_decimal r.nc) _ refl (sign_end r.nc) _
      ∙ next_line (ascii "RELIANCE") (percent_text r.reliance) _ refl (percent_end r.reliance) _
      ∙ next_line (ascii "UPFRONT") (percent_text r.upfront) _ refl (percent_end r.upfront) _
      ∙ next_line (ascii "NCRATIO") (percent_text r.nc_ratio) (flatten (exact_lines r)) refl (percent_end r.nc_ratio) i

  ninth : line_of 8 (flatten (reconciliation_lines r)) ≡ ascii "RELIANCE-R" ++ (32 ∷ exact_text r.reliance)
  unfolding flatten without
  ninth = past_eight 0 ∙ this_line (ascii "RELIANCE-R") (exact_text r.reliance) _ refl (exact_without_end r.reliance)

  tenth : line_of 9 (flatten (reconciliation_lines r)) ≡ ascii "UPFRONT-R" ++ (32 ∷ exact_text r.upfront)
  unfolding flatten without
  tenth =
      past_eight 1
      ∙ next_line (ascii "RELIANCE-R") (exact_text r.reliance) _ refl (exact_without_end r.reliance) 0
      ∙ this_line (ascii "UPFRONT-R") (exact_text r.upfront) _ refl (exact_without_end r.upfront)

  eleventh : line_of 10 (flatten (reconciliation_lines r)) ≡ ascii "NCRATIO-R" ++ (32 ∷ exact_text r.nc_ratio)
  unfolding flatten without
  eleventh =
      past_eight 2
      ∙ next_line (ascii "RELIANCE-R") (exact_text r.reliance) _ refl (exact_without_end r.reliance) 1
      ∙ next_line (ascii "UPFRONT-R") (exact_text r.upfront) _ refl (exact_without_end r.upfront) 0
      ∙ this_line (ascii "NCRATIO-R") (exact_text r.nc_ratio) [] refl (exact_without_end r.nc_ratio)

  slip_exact : ExactPercentages r → FiguresWithin r → SlipExact (flatten (reconciliation_lines r)) r
  unfolding without
  slip_exact exact within =
      record {
        reliance = rw ninth (line_says (ascii "RELIANCE-R") _ _ _ refl (omega arith) r.reliance exact.reliance within.reliance within.reliance_remainder);
        upfront = rw tenth (line_says (ascii "UPFRONT-R") _ _ _ refl (omega arith) r.upfront exact.upfront within.upfront within.upfront_remainder);
        nc_ratio = rw eleventh (line_says (ascii "NCRATIO-R") _ _ _ refl (omega arith) r.nc_ratio exact.nc_ratio within.nc_ratio within.nc_ratio_remainder);
      }

-- The three lines of every priced slip say numbers that satisfy "100 × numerator = quotient × divisor + remainder, remainder from 0 to divisor − 1", or `-`
-- where the divisor is 0, and nothing else.
pub slip_says_exact : (book request : List ℕ) (bill : Bill) → Bytes book → Bytes request → price_of book request ≡ Ok bill →
    SlipExact (slip_of (price_of book request)) bill.reconciliation
unfolding slip_of
slip_says_exact book request bill bytes bytes' priced =
    rw priced
    (slip_exact bill.reconciliation (priced_percentages_exact book request bill priced) (priced_within book request bill bytes bytes' priced).figures)
