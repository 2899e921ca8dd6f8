-- Document 01, 'Charge and reconciliation': "Percentages: ..., nearest whole, halves away from zero; none where the divisor is 0." Document 02, E10: "Beside
-- each rounded percentage, give the whole percent rounded down and the exact remainder".
use Rattle.std.specs.Prelude.{ℕ, suc, ◌+◌, ◌*◌, ◌-◌, ◌/◌, ◌%◌, ℤ, pos, negsuc, neg_ℤ, None, Some, Option, if◌then◌else◌, ◌==◌}
use Rattle.reconciliation.specs.declared.WholePercent.{WholePercent}

-- none where the divisor is 0
abbrev pub Percent : Type 0
Percent = Option WholePercent

-- the whole nearest to 100 n / divisor, halves up
abbrev pub nearest : ℕ → ℕ → ℕ
nearest n divisor = (200 * n + divisor) / (2 * divisor)

-- by size and sign, so that halves go away from zero
abbrev pub rounded : ℤ → ℕ → ℤ
rounded (pos n) divisor = pos (nearest n divisor)
rounded (negsuc n) divisor = neg_ℤ (pos (nearest (suc n) divisor))

-- the whole percent of a size above 0, rounded up
abbrev pub rounded_up : ℕ → ℕ → ℕ
rounded_up n divisor = (100 * n - 1) / divisor + 1

-- "the whole percent rounded down": below 0 the size is rounded up
abbrev pub quotient_of : ℤ → ℕ → ℤ
quotient_of (pos n) divisor = pos (100 * n / divisor)
quotient_of (negsuc n) divisor = neg_ℤ (pos (rounded_up (suc n) divisor))

-- "and the exact remainder", "from 0 to divisor − 1, also where NC is negative"
abbrev pub remainder_of : ℤ → ℕ → ℕ
remainder_of (pos n) divisor = 100 * n % divisor
remainder_of (negsuc n) divisor = rounded_up (suc n) divisor * divisor - 100 * suc n

abbrev pub whole_of : ℤ → ℕ → WholePercent
whole_of n divisor = record { rounded = rounded n divisor; quotient = quotient_of n divisor; remainder = remainder_of n divisor }

abbrev pub percent_of : ℤ → ℕ → Percent
percent_of n divisor = if divisor == 0 then None else Some (whole_of n divisor)
