-- The rounds from one on, one round further and past the last.
use Rattle.std.specs.Prelude.{ℕ, suc, ◌+◌, ◌-◌, ◌≤◌, ◌<◌, ◌≡◌, List, Bool, true, ◌&&◌, leb}
use Rattle.std.proofs.Common.{arith}
use Rattle.text_names.specs.declared.table.Kind.{Kind}
use Rattle.text_names.specs.declared.table.Field.{Field}
use Rattle.text_shown.specs.Values.{value_number}
use Rattle.text_shown.specs.Lines.{all_small}

module _ (kind : Kind) (f : Field) (wide : Bool) (s : List ℕ) where
  pub small_start : (n : ℕ) → all_small kind f wide s (n - 0) 0 ≡ all_small kind f wide s n 0
  small_start n = let e : n - 0 ≡ n = omega arith in rw e

  pub small_on : (n k : ℕ) → k < n → all_small kind f wide s (n - k) k ≡ (leb (value_number kind f wide s k f.first) 255 && all_small kind f wide s (n - (k + 1)) (k + 1))
  unfolding all_small
  small_on n k h = let e : n - k ≡ suc (n - (k + 1)) = omega arith in rw e

  pub small_end : (n k : ℕ) → n ≤ k → all_small kind f wide s (n - k) k ≡ true
  unfolding all_small
  small_end n k h = let e : n - k ≡ 0 = omega arith in rw e
