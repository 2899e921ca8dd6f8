-- Pieces of a text, one behind the other.
use Rattle.std.specs.Prelude.{ℕ, zero, suc, ◌+◌}
use mathlib.Core.List.{List, [], ◌++◌}

-- n pieces, from piece i on
unfoldable pub each : (ℕ → List ℕ) → ℕ → ℕ → List ℕ
each piece zero i = []
each piece (suc n) i = piece i ++ each piece n (i + 1)
