-- Bytes written into an output.
use Rattle.std.specs.Prelude.{ℕ, ◌+◌, length, take, drop}
use mathlib.Core.List.{List, ◌++◌}

-- `out` with these bytes from a place on, and the rest left alone
unfoldable pub written : List ℕ → ℕ → List ℕ → List ℕ
written out at bytes = take at out ++ (bytes ++ drop (at + length bytes) out)
