-- The numbers that a call refuses with, as a list of them.
use Rattle.std.specs.Prelude.{ℕ, List, [], ◌∷◌, Bool, true, false, cond, eqb, zero, suc}

abbrev pub one_of : List ℕ → ℕ → Bool
one_of [] n = false
one_of (number ∷ numbers) n = cond (eqb n number) true (one_of numbers n)

-- the numbers from 1 to `most`
abbrev pub one_to : ℕ → List ℕ
one_to zero = []
one_to (suc most) = suc most ∷ one_to most
