-- The search for a field, as far as the loop over the fields has come.
use Rattle.std.specs.Prelude.{None, Some}
use mathlib.Core.Path.{◌≡◌, refl}
use mathlib.Core.List.{List}
use mathlib.Core.Bool.{Bool, true, false, cond}
use Prim.Native.Nat.{ℕ, ◌+◌, ◌≤◌}
use lib.ListN.{length, get_or}
use borrow.Author.Tests.{ne_eqb}
use native.Mathlib.Omega.{arith}
use Rattle.std.proofs.lemmas.Bool.Decides.{nat_tests}
use Rattle.field_walk.specs.Walk.{length_at}
use Rattle.tagged.specs.Find.{whole_field, fields_from, first_with, first_place}
use Rattle.field_walk.proofs.Rest.{rest_from, rest_from_drop, SoFar, one_field_on}

-- a length that is told is that of a whole field
told : (whole : Bool) (n len : ℕ) → Some len ≡ cond whole (Some n) None → (whole ≡ true) × (len ≡ n)
told true n len e = (refl, cc)
told false n len e = absurd (cc)

-- a whole field ends within the rest
whole_fits : (s : List ℕ) → whole_field s ≡ true → length_at s + 3 ≤ length s
whole_fits s whole = grind (arith, nat_tests)

abbrev pub SearchSoFar : ℕ → List ℕ → List ℕ → ℕ → Type 0
SearchSoFar tag file rest at = SoFar (first_place tag file) file rest at (λ most. first_with tag (fields_from most at rest))

module _ (tag : ℕ) (file rest : List ℕ) (at len : ℕ) (s : SearchSoFar tag file rest at)
    (e : Some len ≡ cond (whole_field rest) (Some (length_at rest)) None) where
  pub search_goes_on : (get_or rest 0 0 ≡ tag → ⊥) → SearchSoFar tag file (rest_from rest (len + 3)) (at + (len + 3))
  unfolding fields_from first_with
  search_goes_on t =
      let known = told (whole_field rest) (length_at rest) len e in
      rw known.1 (one_field_on s _ (length_at rest) (whole_fits rest known.0) (λ most. rw (known.0, ne_eqb _ _ t, rest_from_drop)))
