-- The converse of found_nowhere: a tag that isn't found is that of no field.
use Rattle.std.specs.Prelude.{ℕ, ◌≡◌, refl, List, [], ◌∷◌, Bool, true, false, cond, eqb, None}
use Rattle.std.proofs.Common.{sym, ap, ◌∙◌, ⊎_elim, eq-eqb}
use mathlib.Core.List.Memᴰ
use mathlib.Core.List.{Memᴰ}
use Rattle.field_walk.specs.Walk.{FieldAt}
use Rattle.tagged.specs.Find.{place_at, first_with}
use Rattle.tagged.proofs.Theorems.Impossible.{impossible}

-- no field has a tag that isn't found
pub without : (tag : ℕ) (fs : List FieldAt) → first_with tag fs ≡ None → (f : FieldAt) → Memᴰ f fs → f.tag ≡ tag → ⊥
unfolding first_with
without tag [] e f among same = absurd (Memᴰ.not-nil among)
without tag (g ∷ fs) e f among same = by (eqb g.tag tag) refl (λ none later. without tag fs none f later same) e
  where
    by : (found : Bool) → eqb g.tag tag ≡ found → (first_with tag fs ≡ None → Memᴰ f fs → ⊥) → cond found (place_at g.start g.len) (first_with tag fs) ≡ None → ⊥
    by true t others none = impossible cc
    by false t others none =
        ⊎_elim (λ here. let found : eqb g.tag tag ≡ true = eq-eqb _ _ (ap (λ h. h.tag) (sym here) ∙ same) in impossible cc) (others none) (Memᴰ.cases_cons among)
