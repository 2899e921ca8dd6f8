-- Decimal digits of a number.
use Rattle.std.specs.Prelude.{ℕ, zero, suc, ◌+◌, ◌/◌, ◌%◌, cond, ltb}
use mathlib.Core.List.{List, [], ◌∷◌, ◌++◌}

-- the last `count` digits of n, with zeros in front where it has fewer
unfoldable pub last_digits : ℕ → ℕ → List ℕ
last_digits zero n = []
last_digits (suc count) n = last_digits count (n / 10) ++ ((48 + n % 10) ∷ [])

-- decimal digits without leading zeros; `most` bounds their number
unfoldable pub decimal_from : ℕ → ℕ → List ℕ
decimal_from zero n = []
decimal_from (suc most) n =
    let higher = decimal_from most (n / 10) in
    cond (ltb n 10) ((48 + n) ∷ []) (higher ++ ((48 + n % 10) ∷ []))

-- a number of up to 64 bits has at most 20 digits
abbrev pub decimal : ℕ → List ℕ
decimal n = decimal_from 20 n

-- a comma between thousands; `most` bounds the number of groups before the last
unfoldable pub grouped_from : ℕ → ℕ → List ℕ
grouped_from zero n = decimal n
grouped_from (suc most) n = cond (ltb n 1000) (decimal n) (grouped_from most (n / 1000) ++ (44 ∷ last_digits 3 n))

-- a number of up to 64 bits has at most six groups before the last
abbrev pub grouped : ℕ → List ℕ
grouped n = grouped_from 6 n
