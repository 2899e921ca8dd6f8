-- What holds of factor lists that pass.
use Rattle.std.specs.Prelude.{ℕ, zero, suc, ◌+◌, ◌*◌, ◌≤◌, ◌≡◌, List, [], ◌∷◌, map, length, get_or, leb, Ok}
use Rattle.std.proofs.Common.{zero-le, arith, leb-true}
use Rattle.numbers.specs.BigEndian.{number_at}
use Rattle.tagged.specs.Find.{field_start, field_value}
use Rattle.tagged.proofs.Theorems.Walk.{by_test}
use Rattle.field_values.specs.Limits.{most_factors, highest_factor}
use Rattle.field_values.specs.Judged.{judge_numbers}
use Rattle.field_values.proofs.Theorems.Judged.{judged_within_replicate}
use Rattle.field_values.specs.Factors.{factor_limits, judge_factors, factor_at, factors_of}
use Rattle.field_values.specs.FactorLimits.{FactorBytes, FactorsWithin}

module _ (at : ℕ) (value : List ℕ) (passes : judge_numbers factor_limits at value ≡ Ok tt) (upto : length value ≤ 2 * most_factors) where
  factor_within : (k : ℕ) → factor_at value (2 * k) ≤ highest_factor
  factor_within k =
      by_test (λ n. n ≤ highest_factor) (leb (2 * k + 2) (length value)) (number_at value (2 * k) 2) 0
      (λ had.
      let ends : 2 * k + 2 ≤ length value = leb-true _ _ had in
      (judged_within_replicate (2 ∷ 0 ∷ highest_factor ∷ []) most_factors at value passes k (omega arith) (omega arith)).1)
      (λ _. zero-le)

map_within : (f : ℕ → ℕ) (most : ℕ) → ((k : ℕ) → f k ≤ most) → (l : List ℕ) (k : ℕ) → get_or (map f l) k 0 ≤ most
map_within f most h [] k = zero-le
map_within f most h (x ∷ l) zero = h x
map_within f most h (x ∷ l) (suc k) = map_within f most h l k

pub factors_within : (tag : ℕ) (s : List ℕ) → judge_factors tag s ≡ Ok tt → FactorBytes (field_value tag s) → FactorsWithin (factors_of tag s)
factors_within tag s e long =
    record {
      least = omega (arith, long.0);
      most = omega (arith, long.1);
      each =
          map_within (λ k. factor_at (field_value tag s) (2 * k)) highest_factor (factor_within (field_start tag s) (field_value tag s) e long.1)
          (0 ∷ 1 ∷ 2 ∷ 3 ∷ 4 ∷ 5 ∷ 6 ∷ 7 ∷ []);
    }
