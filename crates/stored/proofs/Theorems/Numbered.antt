-- Lists whose elements are read with their places.
use Rattle.std.specs.Prelude.{ℕ, suc, ◌≡◌, refl, length}
use mathlib.Core.List.{List, [], ◌∷◌}
use Rattle.std.proofs.Common.{ap, ap₂}
use Rattle.stored.specs.Numbered.{numbered_from}

pub length_numbered : {A B : Type 0} (place : ℕ) (each : ℕ → A → B) (xs : List A) → length (numbered_from place each xs) ≡ length xs
length_numbered place each [] = refl
length_numbered place each (x ∷ xs) = ap suc (length_numbered (suc place) each xs)

-- what a place changes nothing of
pub numbered_same : {A : Type 0} (place : ℕ) (each : ℕ → A → A) → ((k : ℕ) (x : A) → each k x ≡ x) → (xs : List A) → numbered_from place each xs ≡ xs
numbered_same place each same [] = refl
numbered_same place each same (x ∷ xs) = ap₂ ◌∷◌ (same place x) (numbered_same (suc place) each same xs)
