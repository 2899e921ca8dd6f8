-- The slip's figures read back as themselves, it fits in the room of a text, and a refused one changes nothing.
use Rattle.std.specs.Prelude.{ℕ, zero, suc, ◌+◌, ◌/◌, ◌%◌, ◌^◌, ◌≤◌, ◌<◌, ◌≡◌, refl, Bool, true, false, cond, ltb, ℤ, pos, negsuc, length, drop, Err, None, Ok, Some}
use Rattle.std.proofs.Common.{ap, sym, ◌∙◌, pow-suc, arith, lt-ltb, le-ltb, ltb-true, ltb-false, length-append}
use mathlib.Core.List.{List, [], ◌∷◌, ◌++◌, flatten}
use Rattle.tagged.proofs.Theorems.Impossible.{impossible}
use Rattle.tagged.specs.File.{refusal}
use Rattle.tagged.specs.Refusals.{output_too_short}
use Rattle.tagged.specs.declared.file.Refusal.{Refusal}
use Rattle.reconciliation.specs.Percent.{Percent}
use Rattle.charge.specs.Price.{price_of, Pricing}
use Rattle.charge.specs.Cases.MarkedFigures.{slip_book, slip_request, slip_priced}
use Rattle.slip_text.specs.Slip.{decimal_from, decimal, signed_decimal, percent_text, exact_text, slip_of, slip_written, slip_buffer}
use Rattle.slip_text.specs.SlipRoom.{room}
use Rattle.slip_text.specs.SlipReading.{ascii}

digits_end : (most n : ℕ) → n < 10 → decimal_from (suc most) n ≡ (48 + n) ∷ []
unfolding decimal_from
digits_end most n h = rw (lt-ltb n 10 h)

digits_on : (most n : ℕ) → 10 ≤ n → decimal_from (suc most) n ≡ decimal_from most (n / 10) ++ ((48 + n % 10) ∷ [])
unfolding decimal_from
digits_on most n h = rw (le-ltb n 10 h)

-- what holds of one digit, and of digits with one more behind them, holds of the digits of every number
pub digits_induction : (P : ℕ → List ℕ → Type 0)
    → ((n : ℕ) → n < 10 → P n ((48 + n) ∷ []))
    → ((n : ℕ) (ds : List ℕ) → 10 ≤ n → P (n / 10) ds → P n (ds ++ ((48 + n % 10) ∷ [])))
    → (most n : ℕ) → n < 10 ^ suc most → P n (decimal_from (suc most) n)
digits_induction P one more zero n h = rw (digits_end zero n h) (one n h)
digits_induction P one more (suc m) n h =
    by (digits_induction P one more m (n / 10) (omega (arith, pow-suc 10 (suc m)))) (ltb n 10) refl
  where
    by : P (n / 10) (decimal_from (suc m) (n / 10)) → (t : Bool) → ltb n 10 ≡ t → P n (decimal_from (suc (suc m)) n)
    by ih true e = rw (digits_end (suc m) n (ltb-true n 10 e)) (one n (ltb-true n 10 e))
    by ih false e = rw (digits_on (suc m) n (ltb-false n 10 e)) (more n _ (ltb-false n 10 e) ih)

-- one number has one row of digits, whatever bounds their number
enough_digits : (most n : ℕ) → n < 10 ^ suc most → (k : ℕ) → n < 10 ^ suc k → decimal_from (suc k) n ≡ decimal_from (suc most) n
enough_digits =
    digits_induction (λ n ds. (k : ℕ) → n < 10 ^ suc k → decimal_from (suc k) n ≡ ds)
    (λ n h k b. digits_end k n h)
    more
  where
    more : (n : ℕ) (ds : List ℕ) → 10 ≤ n → ((k : ℕ) → n / 10 < 10 ^ suc k → decimal_from (suc k) (n / 10) ≡ ds) → (k : ℕ) → n < 10 ^ suc k → decimal_from (suc k) n ≡ ds ++ ((48 + n % 10) ∷ [])
    more n ds h ih zero b = absurd (omega arith)
    more n ds h ih (suc k) b =
        digits_on (suc k) n h ∙ ap (λ (l : List ℕ). l ++ ((48 + n % 10) ∷ [])) (ih k (omega (arith, pow-suc 10 (suc k))))

-- a number from 10 on is its tenth part's digits and one more
pub decimal_on : (n : ℕ) → 10 ≤ n → n < 10 ^ 20 → decimal n ≡ decimal (n / 10) ++ ((48 + n % 10) ∷ [])
decimal_on n h b =
    digits_on 19 n h
    ∙ ap (λ (l : List ℕ). l ++ ((48 + n % 10) ∷ [])) (sym (enough_digits 18 (n / 10) (omega arith) 19 (omega arith)))

pub decimal_length_on : (n : ℕ) → 10 ≤ n → n < 10 ^ 20 → length (decimal n) ≡ length (decimal (n / 10)) + 1
decimal_length_on n h b = ap length (decimal_on n h b) ∙ length-append (decimal (n / 10)) ((48 + n % 10) ∷ [])

pub decimal_end : (n : ℕ) → n < 10 → decimal n ≡ (48 + n) ∷ []
decimal_end n h = digits_end 19 n h

-- at most 20 digits
digits_short : (most n : ℕ) → length (decimal_from most n) ≤ most
unfolding decimal_from
digits_short zero n = omega arith
digits_short (suc most) n = by (digits_short most (n / 10)) (ltb n 10)
  where
    by : length (decimal_from most (n / 10)) ≤ most → (t : Bool) → length (cond t ((48 + n) ∷ []) (decimal_from most (n / 10) ++ ((48 + n % 10) ∷ []))) ≤ suc most
    by ih true = omega arith
    by ih false = simp length-append (omega arith)

pub decimal_short : (n : ℕ) → length (decimal n) ≤ 20
decimal_short n = digits_short 20 n

-- as many as the number's size allows
pub decimal_within : (most n : ℕ) → n < 10 ^ suc most → n < 10 ^ 20 → length (decimal n) ≤ suc most
decimal_within most n h b = rw (enough_digits most n h 19 b) (digits_short (suc most) n)

signed_short : (z : ℤ) → length (signed_decimal z) ≤ 21
signed_short (pos n) = omega (arith, decimal_short n)
signed_short (negsuc n) = omega (arith, decimal_short (suc n))

percent_short : (p : Percent) → length (percent_text p) ≤ 21
percent_short (Some p) = signed_short p.rounded
percent_short None = omega arith

exact_short : (p : Percent) → length (exact_text p) ≤ 42
exact_short (Some p) = simp length-append (omega (arith, signed_short p.quotient, decimal_short p.remainder))
exact_short None = omega arith

-- every slip fits in the room of a text
pub slip_fits : (pricing : Pricing) → length (slip_of pricing) ≤ room
unfolding slip_of flatten
slip_fits (Ok bill) =
    let r = bill.reconciliation in
    simp length-append
    (omega (arith, decimal_short r.cc, decimal_short r.ic, decimal_short r.ir, signed_short r.nic, signed_short r.nc, percent_short r.reliance, percent_short r.upfront, percent_short r.nc_ratio, exact_short r.reliance, exact_short r.upfront, exact_short r.nc_ratio))
slip_fits (Err r) =
    simp length-append (omega (arith, decimal_short r.number, decimal_short r.file, decimal_short r.place))

-- a refused slip leaves the buffer as it was
pub refused_slip_changes_nothing : (pricing : Pricing) (out : List ℕ) (r : Refusal) → slip_written pricing out ≡ Err r → slip_buffer pricing out ≡ out
refused_slip_changes_nothing pricing out r = by (ltb (length out) (length (slip_of pricing)))
  where
    by : (t : Bool) → cond t (Err (refusal output_too_short 0 0)) (Ok (length (slip_of pricing))) ≡ Err r → cond t out (slip_of pricing ++ drop (length (slip_of pricing)) out) ≡ out
    by true e = refl
    by false e = impossible cc

-- document 01, 'The slip', with document 02's three lines: all eleven, from the bytes of its book and request on
pub slip_of_document_01 :
    slip_of (price_of slip_book slip_request) ≡ ascii "CC 1147630\nIC 1706500\nIR 859800\nNIC 846700\nNC 300930\nRELIANCE 67\nUPFRONT 57\nNCRATIO 15\nRELIANCE-R 67 427500\nUPFRONT-R 57 339490\nNCRATIO-R 14 1988980\n"
unfolding slip_of decimal_from flatten
slip_of_document_01 = ap slip_of slip_priced
