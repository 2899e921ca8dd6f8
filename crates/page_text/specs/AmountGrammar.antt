-- Document 02, E1: "31 bytes of amount, right-aligned, as dollars with two decimals, a comma between thousands and a leading minus where negative." "For each
-- line, the amount can be read off the page in one way only". How an amount is read off its columns: a grammar, which doesn't know how a page is written.
use Rattle.std.specs.Prelude.{ℕ, suc, ◌+◌, ◌*◌, ◌<◌, ◌≡◌, List, [], ◌∷◌, ℤ, pos, negsuc}

-- ---- the grammar

-- After dollars that come to `dollars` so far: a point and two digits, which are the last bytes; or a comma, three digits, and so on.
pub data GroupsAfter : ℕ → List ℕ → ℕ → Type 0 where
  point : (dollars a b : ℕ) → a < 10 → b < 10 → GroupsAfter dollars (46 ∷ (48 + a) ∷ (48 + b) ∷ []) (dollars * 100 + (a * 10 + b))
  comma : (dollars a b c cents : ℕ) (rest : List ℕ) → a < 10 → b < 10 → c < 10
      → GroupsAfter (dollars * 1000 + (a * 100 + b * 10 + c)) rest cents
      → GroupsAfter dollars (44 ∷ (48 + a) ∷ (48 + b) ∷ (48 + c) ∷ rest) cents

-- The first group has one to three digits without a leading zero. A lone 0 has no other group behind it.
pub data UnsignedAmount : List ℕ → ℕ → Type 0 where
  lone_zero : (a b : ℕ) → a < 10 → b < 10 → UnsignedAmount (48 ∷ 46 ∷ (48 + a) ∷ (48 + b) ∷ []) (a * 10 + b)
  one_digit : (a cents : ℕ) (rest : List ℕ) → 0 < a → a < 10 → GroupsAfter a rest cents → UnsignedAmount ((48 + a) ∷ rest) cents
  two_digits : (a b cents : ℕ) (rest : List ℕ) → 0 < a → a < 10 → b < 10 → GroupsAfter (a * 10 + b) rest cents → UnsignedAmount ((48 + a) ∷ (48 + b) ∷ rest) cents
  three_digits : (a b c cents : ℕ) (rest : List ℕ) → 0 < a → a < 10 → b < 10 → c < 10
      → GroupsAfter ((a * 10 + b) * 10 + c) rest cents → UnsignedAmount ((48 + a) ∷ (48 + b) ∷ (48 + c) ∷ rest) cents

-- Blanks, a minus directly before the first digit where the amount is below 0, and the amount, which ends in the last column.
pub data AmountColumns : List ℕ → ℤ → Type 0 where
  not_negative : (cents : ℕ) (columns : List ℕ) → UnsignedAmount columns cents → AmountColumns columns (pos cents)
  negative : (cents : ℕ) (columns : List ℕ) → UnsignedAmount columns (suc cents) → AmountColumns (45 ∷ columns) (negsuc cents)
  blank : (amount : ℤ) (columns : List ℕ) → AmountColumns columns amount → AmountColumns (32 ∷ columns) amount

-- "in one way only": these columns are in the grammar with this amount, and with no other
abbrev pub OnlyAmount : List ℕ → ℤ → Type 0
OnlyAmount columns amount = AmountColumns columns amount × ((other : ℤ) → AmountColumns columns other → other ≡ amount)
