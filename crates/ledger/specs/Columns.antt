-- The rules go over columns, one number for each entry, wherever the entries are kept: the number of its scheme, its capacity, what it put in, was
-- credited and was paid out.
use Rattle.std.specs.Prelude.{ℕ, ◌+◌, cond, eqb}
use mathlib.Core.List.{List, [], ◌∷◌, map}
use Rattle.ledger.specs.declared.records.Party.{Party}

abbrev pub scheme_column : List Party → List ℕ
scheme_column parties = map (λ party. party.scheme) parties

abbrev pub put_in_column : List Party → List ℕ
put_in_column parties = map (λ party. party.put_in) parties

abbrev pub credited_column : List Party → List ℕ
credited_column parties = map (λ party. party.credited) parties

abbrev pub ones_column : List Party → List ℕ
ones_column parties = map (λ party. 1) parties

-- the sum of a column over the entries of scheme s
unfoldable pub sum_over : ℕ → List ℕ → List ℕ → ℕ
sum_over s [] figures = 0
sum_over s (scheme ∷ schemes) [] = 0
sum_over s (scheme ∷ schemes) (figure ∷ figures) = cond (eqb scheme s) figure 0 + sum_over s schemes figures

-- how many entries a scheme has, and what its first put in; 0 where it has none
abbrev pub entries_of : ℕ → List Party → ℕ
entries_of s parties = sum_over s (scheme_column parties) (ones_column parties)

unfoldable pub first_put_in : ℕ → List ℕ → List ℕ → ℕ
first_put_in s [] figures = 0
first_put_in s (scheme ∷ schemes) [] = 0
first_put_in s (scheme ∷ schemes) (figure ∷ figures) = let later = first_put_in s schemes figures in cond (eqb scheme s) figure later
