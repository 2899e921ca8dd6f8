-- The column of capacities, and the sums of columns.
use Rattle.std.specs.Prelude.{ℕ, ◌+◌}
use mathlib.Core.List.{List, map, foldr}
use Rattle.ledger.specs.declared.records.Party.{Party}
use Rattle.ledger.specs.Columns.{sum_over}

abbrev pub capacity_column : List Party → List ℕ
capacity_column parties = map (λ party. party.capacity) parties

-- the sum of a column
abbrev pub sum_of : List ℕ → ℕ
sum_of figures = foldr ◌+◌ 0 figures

-- K, the capacity of all parties of scheme s
abbrev pub capacity_of : ℕ → List ℕ → List ℕ → ℕ
capacity_of s schemes capacities = sum_over s schemes capacities
