-- Document 01, 'Accept', over columns of all entries, as the code goes over them: what each earlier entry is credited of what a joiner pays.
use Rattle.std.specs.Prelude.{ℕ, ◌+◌, List, [], ◌∷◌, cond, eqb}
use Rattle.ledger.specs.CapacityColumns.{capacity_of}
use Rattle.calls.specs.Rules.{share}

-- the capacity of an entry of scheme s; an entry of another scheme weighs nothing
unfoldable pub weights : ℕ → List ℕ → List ℕ → List ℕ
weights s [] capacities = []
weights s (scheme ∷ schemes) [] = []
weights s (scheme ∷ schemes) (capacity ∷ capacities) = cond (eqb scheme s) capacity 0 ∷ weights s schemes capacities

-- each entry's share of the amount, `before` the running capacity so far
unfoldable pub shares : ℕ → ℕ → ℕ → List ℕ → List ℕ
shares amount total before [] = []
shares amount total before (weight ∷ others) = share amount total before weight ∷ shares amount total (before + weight) others

-- what each entry is credited by a joining of scheme s
abbrev pub credits : ℕ → ℕ → List ℕ → List ℕ → List ℕ
credits s amount schemes capacities = shares amount (capacity_of s schemes capacities) 0 (weights s schemes capacities)
