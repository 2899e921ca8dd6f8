-- How high a discount factor is, and a list of the factors of the years.
use Rattle.std.specs.Prelude.{ℕ, ◌≤◌, ◌≡◌, List, slice_index}
use Rattle.discount.specs.Discount.{discount}

-- F(0); every later factor is at most the one before
abbrev pub highest_discount : ℕ
highest_discount = 100000000

-- a list with the factors of the years 0 to life, each at its year's place
pub record FactorsUntil (b life : ℕ) (factors : List ℕ) : Type 0 where
  pub each : (n : ℕ) → n ≤ life → slice_index factors n ≡ discount b n
