-- Columns of a few entries, and what the entries of a scheme come to.
use Rattle.std.specs.Prelude.{◌≡◌, refl, List, [], ◌∷◌, map}
use Rattle.ledger.specs.Records.{party_of}
use Rattle.ledger.specs.Columns.{scheme_column, put_in_column, credited_column, sum_over, entries_of, first_put_in}
use Rattle.ledger.specs.CapacityColumns.{capacity_column, sum_of, capacity_of}
use Rattle.ledger.specs.declared.records.Party.{Party}

abbrev parties : List Party
parties = party_of 1 2 11 21 31 41 51 ∷ party_of 2 1 12 22 32 42 52 ∷ party_of 3 3 13 5000000000 33 5000000043 53 ∷ party_of 4 2 14 24 34 44 54 ∷ party_of 5 3 15 70000 35 45 55 ∷ []

pub columns :
    (scheme_column parties ≡ 2 ∷ 1 ∷ 3 ∷ 2 ∷ 3 ∷ [])
    × (capacity_column parties ≡ 21 ∷ 22 ∷ 5000000000 ∷ 24 ∷ 70000 ∷ [])
    × (put_in_column parties ≡ 31 ∷ 32 ∷ 33 ∷ 34 ∷ 35 ∷ [])
    × (credited_column parties ≡ 41 ∷ 42 ∷ 5000000043 ∷ 44 ∷ 45 ∷ [])
columns = (refl, refl, refl, refl)

pub summed : (sum_of [] ≡ 0) × (sum_of (21 ∷ 22 ∷ 5000000000 ∷ []) ≡ 5000000043)
summed = (refl, refl)

-- of the schemes 0 to 4: the first and the last have no entry
pub of_each_scheme :
    (map (λ s. sum_over s (scheme_column parties) (credited_column parties)) (0 ∷ 1 ∷ 2 ∷ 3 ∷ 4 ∷ []) ≡ 0 ∷ 42 ∷ 85 ∷ 5000000088 ∷ 0 ∷ [])
    × (map (λ s. capacity_of s (scheme_column parties) (capacity_column parties)) (0 ∷ 1 ∷ 2 ∷ 3 ∷ 4 ∷ []) ≡ 0 ∷ 22 ∷ 45 ∷ 5000070000 ∷ 0 ∷ [])
    × (map (λ s. entries_of s parties) (0 ∷ 1 ∷ 2 ∷ 3 ∷ 4 ∷ []) ≡ 0 ∷ 1 ∷ 2 ∷ 2 ∷ 0 ∷ [])
    × (sum_over 1 (1 ∷ []) [] ≡ 0)
    × (first_put_in 1 (1 ∷ []) [] ≡ 0)
    × (map (λ s. first_put_in s (scheme_column parties) (put_in_column parties)) (0 ∷ 1 ∷ 2 ∷ 3 ∷ 4 ∷ []) ≡ 0 ∷ 32 ∷ 31 ∷ 33 ∷ 0 ∷ [])
unfolding sum_over first_put_in
of_each_scheme = (refl, refl, refl, refl, refl, refl)
