-- The walk, as far as the loop over the fields has come.
use mathlib.Core.Path.{◌≡◌, refl}
use mathlib.Core.List.{List}
use Prim.Native.Nat.{ℕ, ◌+◌, ◌≤◌}
use lib.ListN.{length}
use Rattle.field_walk.specs.declared.walk.Front.TheVariants.{Field}
use Rattle.field_walk.specs.Walk.{front_of, walk_from, walk_by, Walk, fields, stops, and_then, FieldAt}
use Rattle.field_walk.specs.Walked.{walked}
use Rattle.field_walk.proofs.Rest.{rest_from, rest_from_drop, SoFar, one_field_on}

abbrev pub WalkSoFar : List (List ℕ) → List ℕ → List ℕ → ℕ → ℕ → ℕ → Type 0
WalkSoFar rows file rest at row count = SoFar (walked (walk_by rows file)) file rest at (λ most. walked (walk_from most rows row count at rest))

walked_then : (f : FieldAt) (w : Walk) → walked (and_then f w) ≡ walked w
walked_then f (fields fs) = refl
walked_then f (stops at) = refl

module _ (rows : List (List ℕ)) (file rest : List ℕ) (at row count : ℕ) (s : WalkSoFar rows file rest at row count) where
  pub walk_goes_on : (k n len : ℕ) → front_of rows row count rest ≡ Field k n len → len + 3 ≤ length rest →
      WalkSoFar rows file (rest_from rest (len + 3)) (at + (len + 3)) k n
  unfolding walk_from
  walk_goes_on k n len e fits = one_field_on s _ len fits (λ most. rw (e, walked_then, rest_from_drop))
