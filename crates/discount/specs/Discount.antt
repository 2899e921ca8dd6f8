-- Document 01, 'Charge and reconciliation': the discount factors.
use Rattle.std.specs.Prelude.{ℕ, zero, suc, ◌+◌, ◌*◌, ◌/◌}

-- "F(0) = 100,000,000; F(n+1) = ⌊F(n) × 10,000 / (10,000 + b)⌋."
unfoldable pub discount : ℕ → ℕ → ℕ
discount b zero = 100000000
discount b (suc n) = discount b n * 10000 / (10000 + b)
