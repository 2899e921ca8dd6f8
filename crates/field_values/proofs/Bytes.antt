-- Whether two lists of bytes are the same, as the library's test has it.
use Rattle.std.specs.Prelude.{ℕ, ◌≡◌, refl, List, [], ◌∷◌, Bool, true, false, cond, eqb}
use mathlib.Core.Bool.{◌&&◌}
use lib.Pointwise.{pointwise}
use Rattle.field_values.specs.Judged.{same_bytes}

both : (first : Bool) {second same : Bool} → second ≡ same → (first && second) ≡ cond first same false
both true e = e
both false e = refl

pub same_by_library : (a b : List ℕ) → pointwise eqb a b ≡ same_bytes a b
unfolding same_bytes
same_by_library [] [] = refl
same_by_library [] (y ∷ b) = refl
same_by_library (x ∷ a) [] = refl
same_by_library (x ∷ a) (y ∷ b) = both (eqb x y) (same_by_library a b)
