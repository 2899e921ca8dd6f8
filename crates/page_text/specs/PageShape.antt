-- The lines of a page.
use Rattle.std.specs.Prelude.{ℕ, ◌≡◌, length, replicate}
use mathlib.Core.List.{List, map}

-- "12 lines of 64 bytes"
abbrev pub line_size : ℕ
line_size = 64

-- so many lines of 64 bytes
abbrev pub Lines : ℕ → List (List ℕ) → Type 0
Lines n lines = map length lines ≡ replicate n line_size
