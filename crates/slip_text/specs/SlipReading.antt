-- A text's bytes.
use Prim.Native.String.{String, [] as none, ◌∷◌ as ◌then◌}
use Prim.Native.Char.{code}
use Rattle.std.specs.Prelude.{ℕ}
use mathlib.Core.List.{List, [], ◌∷◌}

abbrev pub ascii : String → List ℕ
ascii none = []
ascii (c then s) = code c ∷ ascii s
