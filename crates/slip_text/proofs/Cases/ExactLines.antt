-- Lines of quotient and remainder that say something, and texts behind a name that say nothing.
use Rattle.std.specs.Prelude.{ℕ, suc, ◌+◌, ◌<◌, ◌≡◌, refl, Bool, true, false, cond, ◌&&◌, ◌||◌, ltb, leb, eqb, ℤ, negsuc, length, get_or, drop, replicate}
use Rattle.std.proofs.Common.{ap, ap₂, sym, ◌∙◌, ⊎_elim, arith, lit<, lt-ltb, le-leb, ne_eqb}
use mathlib.Core.List.Memᴰ
use mathlib.Core.List.{List, [], ◌∷◌, ◌++◌, map, Memᴰ}
use Rattle.tagged.proofs.Theorems.Impossible.{impossible}
use Rattle.slip_text.specs.Slip.{decimal_from, decimal, signed_decimal}
use Rattle.slip_text.specs.SlipReading.{ascii}
use Rattle.slip_text.specs.ExactLines.{before, after, DigitsAfter, end, digit, UnsignedNumber, lone_zero, digits, SignedNumber, not_negative, negative, Says, quotient_and_remainder, no_percentage, ExactLine, pair, dash}
use Rattle.slip_text.proofs.Theorems.ExactLines.{without, before_at, after_at, found_at, signed_plain, decimal_stands, signed_stands}

pub exact_lines_read :
    ExactLine (ascii "NCRATIO-R") (ascii "NCRATIO-R -2 100") (quotient_and_remainder (negsuc 1) 100)
    × ExactLine (ascii "RELIANCE-R") (ascii "RELIANCE-R -") no_percentage
unfolding decimal_from
exact_lines_read = (
  pair (negsuc 1) 100 (signed_decimal (negsuc 1)) (decimal 100) (signed_stands (negsuc 1) (lit< tt)) (decimal_stands 100 (lit< tt)),
  dash,
)

-- ---- a test that every line of the grammar passes
unfoldable all_digits : List ℕ → Bool
all_digits [] = true
all_digits (b ∷ bytes) = (leb 48 b && ltb b 58) && all_digits bytes

-- one digit, or several of which the first isn't 0
abbrev is_number : List ℕ → Bool
is_number bytes = all_digits bytes && (eqb (length bytes) 1 || ltb 48 (get_or bytes 0 0))

abbrev is_signed : List ℕ → Bool
is_signed bytes = cond (eqb (get_or bytes 0 0) 45) (ltb 48 (get_or bytes 1 0)) (is_number bytes)

abbrev is_said : List ℕ → Bool
is_said said = cond (without 32 said) (eqb (length said) 1 && eqb (get_or said 0 0) 45) (is_signed (before 32 said) && is_number (after 32 said))

both : {s t : Bool} → s ≡ true → t ≡ true → (s && t) ≡ true
both p q = ap₂ ◌&&◌ p q

or_else : (s : Bool) {t : Bool} → t ≡ true → (s || t) ≡ true
or_else true q = refl
or_else false q = q

digit_is : (d : ℕ) → d < 10 → (leb 48 (48 + d) && ltb (48 + d) 58) ≡ true
digit_is d h = both (le-leb 48 (48 + d) (omega arith)) (lt-ltb (48 + d) 58 (omega arith))

digits_are : {n m : ℕ} {rest : List ℕ} → DigitsAfter n rest m → all_digits rest ≡ true
unfolding all_digits
digits_are (end n) = refl
digits_are (digit n d m rest h more) = both (digit_is d h) (digits_are more)

number_is : {n : ℕ} {bytes : List ℕ} → UnsignedNumber bytes n → is_number bytes ≡ true
unfolding all_digits
number_is lone_zero = refl
number_is (digits d n rest some h more) = both (both (digit_is d h) (digits_are more)) (or_else (eqb (length ((48 + d) ∷ rest)) 1) (lt-ltb 48 (48 + d) (omega arith)))

signed_is : {z : ℤ} {bytes : List ℕ} → SignedNumber bytes z → is_signed bytes ≡ true
signed_is (negative n bytes number) = above number
  where
    above : {n : ℕ} {bytes : List ℕ} → UnsignedNumber bytes (suc n) → ltb 48 (get_or bytes 0 0) ≡ true
    above (digits d n rest some h more) = lt-ltb 48 (48 + d) (omega arith)
signed_is (not_negative n bytes number) = plain number
  where
    plain : {n : ℕ} {bytes : List ℕ} → UnsignedNumber bytes n → is_signed bytes ≡ true
    plain lone_zero = number_is lone_zero
    plain (digits d n rest some h more) = rw (ne_eqb (48 + d) 45 (λ e. omega arith)) (number_is (digits d n rest some h more))

said_is : {name line : List ℕ} {says : Says} → without 32 name ≡ true → ExactLine name line says → is_said (after 32 line) ≡ true
unfolding without
said_is {name} plain (pair quotient remainder q r signed unsigned) =
    let alone = signed_plain signed in
    rw (after_at 32 name (q ++ (32 ∷ r)) plain, found_at 32 q r, before_at 32 q r alone, after_at 32 q r alone) (both (signed_is signed) (number_is unsigned))
said_is {name} plain dash = rw (after_at 32 name (45 ∷ []) plain) refl

none_said : (texts : List (List ℕ)) → map is_said texts ≡ replicate (length texts) false → (said : List ℕ) → Memᴰ said texts →
    (name : List ℕ) → without 32 name ≡ true → (says : Says) → ExactLine name (name ++ (32 ∷ said)) says → ⊥
none_said [] e said among = absurd (Memᴰ.not-nil among)
none_said (text ∷ texts) e said among =
    ⊎_elim
    (λ same name plain says stands. nothing (sym (said_is plain stands) ∙ ap is_said (after_at 32 name said plain) ∙ ap is_said same ∙ ap (λ l. get_or l 0 false) e))
    (none_said texts (ap (drop 1) e) said)
    (Memᴰ.cases_cons among)
  where
    nothing : true ≡ false → ⊥
    nothing e = impossible cc

-- no number, a leading 0, a minus before 0 or alone, a minus before the remainder, two blanks, nothing
abbrev not_said : List (List ℕ)
not_said = ascii "67" ∷ ascii "067 1" ∷ ascii "67 01" ∷ ascii "-0 5" ∷ ascii "- 5" ∷ ascii "67 -5" ∷ ascii "67  5" ∷ ascii "67 " ∷ ascii "--" ∷ [] ∷ []

pub not_read : (said : List ℕ) → Memᴰ said not_said → (name : List ℕ) → without 32 name ≡ true → (says : Says) → ExactLine name (name ++ (32 ∷ said)) says → ⊥
unfolding without before after all_digits
not_read = none_said not_said refl
