-- Document 01, 'Accept': what a joiner pays, and what each earlier party of the scheme is credited of it.
use Rattle.std.specs.Prelude.{ℕ, ◌+◌, ◌*◌, ◌-◌, ◌/◌, List, [], ◌∷◌, map, cond, eqb}
use Rattle.ledger.specs.Lists.{sum_by}
use Rattle.ledger.specs.Books.{EntryParticulars, Books, of_scheme}

-- a party of the scheme, by its entry's number
pub record Holding : Type 0 where
  pub entry : ℕ
  pub capacity : ℕ

-- what an entry is credited
pub record Credit : Type 0 where
  pub entry : ℕ
  pub amount : ℕ

abbrev pub holding : EntryParticulars → Holding
holding row = record { entry = row.number; capacity = row.capacity }

-- the parties of scheme s, in order
abbrev pub parties_of : ℕ → Books → List Holding
parties_of s books = map holding (of_scheme s books.entries)

-- K, the capacity of all of them
abbrev pub capacity_of : List Holding → ℕ
capacity_of parties = sum_by (λ party. party.capacity) parties

-- "G = ⌊X0 × k / (K + k)⌋, X0 the scheme's cost", k the joiner's capacity
abbrev pub contribution : ℕ → ℕ → ℕ → ℕ
contribution cost k total = cost * k / (total + k)

-- "S the running capacity with this entry and S' without it, each is credited ⌊(G − fee) × S / K⌋ − ⌊(G − fee) × S' / K⌋": the amount is G − fee,
-- `before` is S'
abbrev pub share : ℕ → ℕ → ℕ → ℕ → ℕ
share amount total before capacity = amount * (before + capacity) / total - amount * before / total

-- "Of the scheme's earlier entries in order"
abbrev pub split : ℕ → ℕ → ℕ → List Holding → List Credit
split amount total before [] = []
split amount total before (party ∷ later) =
    record { entry = party.entry; amount = share amount total before party.capacity } ∷ split amount total (before + party.capacity) later

-- the whole amount over these parties
abbrev pub shared : ℕ → List Holding → List Credit
shared amount parties = split amount (capacity_of parties) 0 parties

-- what a list of credits gives an entry
abbrev pub credit_to : ℕ → List Credit → ℕ
credit_to e credits = sum_by (λ credit. cond (eqb credit.entry e) credit.amount 0) credits
