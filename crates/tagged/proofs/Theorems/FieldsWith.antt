-- Of some fields, those with one tag.
use Rattle.std.specs.Prelude.{ℕ, ◌≡◌, Bool, eqb}
use Rattle.std.proofs.Math.Path.{refl, ap, subst}
use Rattle.std.proofs.Common.{sym, ◌∙◌, eq-eqb, ne_eqb}
use mathlib.Core.List.Memᴰ
use mathlib.Core.List.{List, [], ◌∷◌, ◌++◌, Memᴰ}
use Rattle.std.proofs.Math.Logic.{⊎_elim}
use Rattle.std.proofs.Math.Bool.{true, false, cond}
use Rattle.field_walk.specs.Walk.{FieldAt}
use Rattle.tagged.specs.Find.{fields_with}

module _ (tag : ℕ) where
  module _ (f : FieldAt) (fs : List FieldAt) where
    pub with_this : f.tag ≡ tag → fields_with tag (f ∷ fs) ≡ f ∷ fields_with tag fs
    unfolding fields_with
    with_this same = rw (eq-eqb _ _ same)

    pub with_past : (f.tag ≡ tag → ⊥) → fields_with tag (f ∷ fs) ≡ fields_with tag fs
    unfolding fields_with
    with_past other = rw (ne_eqb _ _ other)

  pub with_append : (fs others : List FieldAt) → fields_with tag (fs ++ others) ≡ fields_with tag fs ++ fields_with tag others
  unfolding fields_with
  with_append [] others = refl
  with_append (f ∷ fs) others = by_tag (eqb f.tag tag) (with_append fs others)
    where
      by_tag : (b : Bool) → fields_with tag (fs ++ others) ≡ fields_with tag fs ++ fields_with tag others →
          cond b (f ∷ fields_with tag (fs ++ others)) (fields_with tag (fs ++ others)) ≡
          cond b (f ∷ fields_with tag fs) (fields_with tag fs) ++ fields_with tag others
      by_tag true later = ap (λ l. f ∷ l) later
      by_tag false later = later

  pub with_all : (fs : List FieldAt) → ((f : FieldAt) → Memᴰ f fs → f.tag ≡ tag) → fields_with tag fs ≡ fs
  unfolding fields_with
  with_all [] all = refl
  with_all (f ∷ fs) all =
      with_this f fs (all f (Memᴰ.head refl)) ∙ ap (λ l. f ∷ l) (with_all fs (λ g among. all g (Memᴰ.tail among)))

  pub with_none : (fs : List FieldAt) → ((f : FieldAt) → Memᴰ f fs → f.tag ≡ tag → ⊥) → fields_with tag fs ≡ []
  unfolding fields_with
  with_none [] none = refl
  with_none (f ∷ fs) none = with_past f fs (none f (Memᴰ.head refl)) ∙ with_none fs (λ g among. none g (Memᴰ.tail among))

  pub with_among : (fs : List FieldAt) (f : FieldAt) → Memᴰ f fs → f.tag ≡ tag → Memᴰ f (fields_with tag fs)
  unfolding fields_with
  with_among [] f among same = absurd (Memᴰ.not-nil among)
  with_among (g ∷ fs) f among same =
      ⊎_elim
      (λ e. subst (Memᴰ f) (sym (with_this g fs (sym (ap (λ h. h.tag) e) ∙ same))) (Memᴰ.head e))
      (λ later. by_tag (eqb g.tag tag) (with_among fs f later same))
      (Memᴰ.cases_cons among)
    where
      by_tag : (b : Bool) → Memᴰ f (fields_with tag fs) → Memᴰ f (cond b (g ∷ fields_with tag fs) (fields_with tag fs))
      by_tag true later = Memᴰ.tail later
      by_tag false later = later
