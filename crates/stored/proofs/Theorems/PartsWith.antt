-- What is read of the fields with one tag, where it is known which tags and values the fields are.
use Rattle.std.specs.Prelude.{ℕ, suc, ◌≡◌, get_or, drop}
use Rattle.std.proofs.Math.Path.{refl, ap}
use Rattle.std.proofs.Common.{ap₂, subst, ◌∙◌, arith}
use mathlib.Core.List.{List, [], ◌∷◌, ◌++◌, append-nil, map, Memᴰ}
use Rattle.std.proofs.Math.ListN.{length}
use Rattle.field_walk.specs.Walk.{FieldAt, value_of}
use Rattle.tagged.specs.Find.{fields_with}
use Rattle.tagged.proofs.Theorems.FieldsWith.{with_this, with_past}
use Rattle.tagged.specs.WalkEncoded.{parts_of}
use Rattle.stored.specs.Numbered.{numbered_from}
use Rattle.stored.specs.Form.{each_with}

module _ {A : Type 0} (read : ℕ → List ℕ → A) (tag : ℕ) (s : List ℕ) where
  -- so much is read of fields that are these parts, where those with the tag are in places from `place` on
  abbrev pub Reads : ℕ → List (ℕ × List ℕ) → List A → Type 0
  Reads place parts values = (fs : List FieldAt) → parts_of s fs ≡ parts → each_with read place tag s fs ≡ values

  pub reads_none : (place : ℕ) → Reads place [] []
  unfolding fields_with
  reads_none place [] are = refl
  reads_none place (f ∷ fs) are = absurd (omega (arith, ap length are))

  module _ (others : List (ℕ × List ℕ)) where
    -- parts with another tag before them
    pub reads_past : {B : Type 0} (part : B → ℕ × List ℕ) → ((x : B) → (part x).0 ≡ tag → ⊥) → (xs : List B) (place : ℕ) (values : List A) →
        Reads place others values → Reads place (map part xs ++ others) values
    reads_past part other [] place values later fs are = later fs are
    reads_past part other (x ∷ xs) place values later [] are = absurd (omega (arith, ap length are))
    reads_past part other (x ∷ xs) place values later (f ∷ fs) are =
        let first : (f.tag, value_of s f) ≡ part x = ap (λ l. get_or l 0 (part x)) are in
        rw (with_past tag f fs (λ e. other x (cc))) (reads_past part other xs place values later fs (ap (drop 1) are))

    -- parts with this tag before others with none of it
    pub reads_mine : {B : Type 0} (part : B → ℕ × List ℕ) (back : ℕ → B → A) → ((x : B) → (part x).0 ≡ tag) → ((place : ℕ) → Reads place others []) →
        (xs : List B) → ((x : B) → Memᴰ x xs → (place : ℕ) → read place (part x).1 ≡ back place x) → (place : ℕ) →
        Reads place (map part xs ++ others) (numbered_from place back xs)
    reads_mine part back same later [] told place fs are = later place fs are
    reads_mine part back same later (x ∷ xs) told place [] are = absurd (omega (arith, ap length are))
    reads_mine part back same later (x ∷ xs) told place (f ∷ fs) are =
        let first : (f.tag, value_of s f) ≡ part x = ap (λ l. get_or l 0 (part x)) are in
        rw (with_this tag f fs (ap (λ p. p.0) first ∙ same x))
        (ap₂ ◌∷◌ (ap (λ p. read place p.1) first ∙ told x (Memᴰ.head refl) place)
        (reads_mine part back same later xs (λ y among. told y (Memᴰ.tail among)) (suc place) fs (ap (drop 1) are)))

  -- parts with another tag alone, or with this tag alone
  pub reads_none_of : {B : Type 0} (part : B → ℕ × List ℕ) → ((x : B) → (part x).0 ≡ tag → ⊥) → (xs : List B) (place : ℕ) → Reads place (map part xs) []
  reads_none_of part other xs place =
      subst (λ parts. Reads place parts []) (append-nil (map part xs)) (reads_past [] part other xs place [] (reads_none place))

  pub reads_all_of : {B : Type 0} (part : B → ℕ × List ℕ) (back : ℕ → B → A) → ((x : B) → (part x).0 ≡ tag) → (xs : List B) →
      ((x : B) → Memᴰ x xs → (place : ℕ) → read place (part x).1 ≡ back place x) → (place : ℕ) → Reads place (map part xs) (numbered_from place back xs)
  reads_all_of part back same xs told place =
      subst (λ parts. Reads place parts (numbered_from place back xs)) (append-nil (map part xs)) (reads_mine [] part back same reads_none xs told place)
