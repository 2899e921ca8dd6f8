-- What holds of a factor list that passes: document 01, "1 to 8 of 2 bytes, each 0 to 40,000".
use Rattle.std.specs.Prelude.{ℕ, ◌≤◌, ◌*◌, ◌%◌, ◌≡◌, List, length, slice_index}
use Rattle.field_values.specs.Limits.{most_factors, highest_factor}
use Rattle.field_values.specs.declared.factors.Factors.{Factors}

pub record FactorsWithin (list : Factors) : Type 0 where
  pub least : 1 ≤ list.count
  pub most : list.count ≤ most_factors
  pub each : (k : ℕ) → slice_index list.values k ≤ highest_factor

-- the bytes of a list of 1 to 8 factors
abbrev pub FactorBytes : List ℕ → Type 0
FactorBytes value = (2 ≤ length value) × (length value ≤ 2 * most_factors) × (length value % 2 ≡ 0)
