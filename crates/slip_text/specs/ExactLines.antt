-- Document 02, E10: "three lines after NCRATIO, named RELIANCE-R, UPFRONT-R and NCRATIO-R, each with quotient, a blank, remainder; `-` where the divisor is 0." What
-- these lines say: a grammar, which doesn't know how a slip is written.
use Rattle.std.specs.Prelude.{ℕ, zero, suc, ◌+◌, ◌*◌, ◌<◌, ◌≡◌, ℤ, pos, negsuc, if◌then◌else◌, ◌==◌}
use mathlib.Core.List.{List, [], ◌∷◌, ◌++◌}
use Rattle.reconciliation.specs.ExactPercent.{Divided}
use Rattle.reconciliation.specs.declared.Reconciliation.{Reconciliation}
use Rattle.slip_text.specs.SlipReading.{ascii}

-- what stands before the first such byte, and after it
unfoldable pub before : ℕ → List ℕ → List ℕ
before byte [] = []
before byte (b ∷ bytes) = if b == byte then [] else b ∷ before byte bytes

unfoldable pub after : ℕ → List ℕ → List ℕ
after byte [] = []
after byte (b ∷ bytes) = if b == byte then bytes else after byte bytes

-- line i of a text, counted from 0, without its byte 0A
unfoldable pub line_of : ℕ → List ℕ → List ℕ
line_of zero text = before 10 text
line_of (suc i) text = line_of i (after 10 text)

-- after digits that come to n so far
pub data DigitsAfter : ℕ → List ℕ → ℕ → Type 0 where
  end : (n : ℕ) → DigitsAfter n [] n
  digit : (n d m : ℕ) (rest : List ℕ) → d < 10 → DigitsAfter (n * 10 + d) rest m → DigitsAfter n ((48 + d) ∷ rest) m

-- a lone 0, or digits of which the first isn't 0
pub data UnsignedNumber : List ℕ → ℕ → Type 0 where
  lone_zero : UnsignedNumber (48 ∷ []) 0
  digits : (d n : ℕ) (rest : List ℕ) → 0 < d → d < 10 → DigitsAfter d rest n → UnsignedNumber ((48 + d) ∷ rest) n

-- a minus stands before a number that isn't 0
pub data SignedNumber : List ℕ → ℤ → Type 0 where
  not_negative : (n : ℕ) (bytes : List ℕ) → UnsignedNumber bytes n → SignedNumber bytes (pos n)
  negative : (n : ℕ) (bytes : List ℕ) → UnsignedNumber bytes (suc n) → SignedNumber (45 ∷ bytes) (negsuc n)

-- what a line says behind its name and a blank
pub data Says : Type 0 where
  quotient_and_remainder : ℤ → ℕ → Says
  no_percentage : Says

pub data ExactLine (name : List ℕ) : List ℕ → Says → Type 0 where
  pair : (quotient : ℤ) (remainder : ℕ) (q r : List ℕ) → SignedNumber q quotient → UnsignedNumber r remainder →
      ExactLine name (name ++ (32 ∷ (q ++ (32 ∷ r)))) (quotient_and_remainder quotient remainder)
  dash : ExactLine name (name ++ (32 ∷ 45 ∷ [])) no_percentage

-- numbers that satisfy the equation, and `-` where the divisor is 0
abbrev pub SaysExact : ℤ → ℕ → Says → Type 0
SaysExact numerator divisor (quotient_and_remainder quotient remainder) = Divided numerator divisor quotient remainder
SaysExact numerator divisor no_percentage = divisor ≡ 0

-- a line says this, and nothing else
pub record LineExact (line name : List ℕ) (numerator : ℤ) (divisor : ℕ) : Type 0 where
  pub says : Says
  pub stands : ExactLine name line says
  pub only : (other : Says) → ExactLine name line other → other ≡ says
  pub exact : SaysExact numerator divisor says

-- "CC/IC, CC/(CC+IR), NC/(CC+IR)", on the ninth, tenth and eleventh line
pub record SlipExact (text : List ℕ) (r : Reconciliation) : Type 0 where
  pub reliance : LineExact (line_of 8 text) (ascii "RELIANCE-R") (pos r.cc) r.ic
  pub upfront : LineExact (line_of 9 text) (ascii "UPFRONT-R") (pos r.cc) (r.cc + r.ir)
  pub nc_ratio : LineExact (line_of 10 text) (ascii "NCRATIO-R") r.nc (r.cc + r.ir)
