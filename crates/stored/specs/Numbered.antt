-- Document 01's form has its schemes and entries by their places, "numbered from 1".
use Rattle.std.specs.Prelude.{ℕ, suc, List, [], ◌∷◌}

-- each with its number, from `number` on
abbrev pub numbered_from : {A B : Type 0} → ℕ → (ℕ → A → B) → List A → List B
numbered_from number each [] = []
numbered_from number each (x ∷ xs) = each number x ∷ numbered_from (suc number) each xs
