-- Cases that cannot come up: an equation of two different constructors gives 0 ≡ 1 by congruence, and with it every statement.
use Rattle.std.specs.Prelude.{ℕ, ◌≡◌}
use Rattle.std.proofs.Common.{arith}

pub impossible : {A : Type 0} → ◌≡◌ {A = ℕ} 0 1 → A
impossible same = absurd (omega arith)
