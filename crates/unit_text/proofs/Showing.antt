-- How long the parts of a shown number are.
use Rattle.std.specs.Prelude.{ℕ, ◌+◌, ◌/◌, ◌^◌, ◌≡◌, [], ◌∷◌, ◌++◌, length}
use Rattle.std.proofs.Common.{arith, length-append}
use Rattle.text_output.specs.Digits.{decimal, grouped}
use Rattle.text_output.proofs.Theorems.Digits.{last_digits_length}
use Rattle.unit_text.specs.Shown.{pointed, month_text, said_pointed}

pub pointed_length : (decimals n : ℕ) → length (pointed decimals n) ≡ length (decimal (n / 10 ^ decimals)) + 1 + decimals
pointed_length decimals n = simp (length-append, last_digits_length) (omega arith)

pub percent_length : (n : ℕ) → length (pointed 2 n ++ (37 ∷ [])) ≡ length (pointed 2 n) + 1
percent_length n = length-append (pointed 2 n) (37 ∷ [])

pub month_length : (n : ℕ) → length (month_text n) ≡ 7
month_length n = simp (length-append, last_digits_length)

pub said_length : (decimals n : ℕ) → length (said_pointed decimals n) ≡ length (grouped (n / 10 ^ decimals)) + 1 + decimals
said_length decimals n = simp (length-append, last_digits_length) (omega arith)
