-- Lists that are shown with the oldest first.
use Rattle.std.specs.Prelude.{◌≡◌, refl, List, [], ◌∷◌, ◌++◌, map, length}
use Rattle.std.proofs.Common.{sym, ap₂, ◌∙◌, arith, length-append}
use Rattle.std.proofs.lemmas.List.{map-append, length-map}
use Rattle.std.proofs.lemmas.Simd.{map-map}
use Rattle.ledger.specs.Lists.{oldest_first, All}
use Rattle.calls.proofs.Theorems.Lists.{map_same, all_in_order}

pub length_in_order : {A : Type 0} (xs : List A) → length (oldest_first xs) ≡ length xs
length_in_order [] = refl
length_in_order (x ∷ xs) = omega (arith, length-append (oldest_first xs) (x ∷ []), length_in_order xs)

pub length_shown : {A B : Type 0} (each : A → B) (xs : List A) → length (map each (oldest_first xs)) ≡ length xs
length_shown each xs = length-map (oldest_first xs) each ∙ length_in_order xs

-- a change of each, over what is shown
pub shown_each : {A B C : Type 0} (change : B → C) (old : A → B) (new : A → C) {xs : List A} → All (λ x. change (old x) ≡ new x) xs →
    map change (map old (oldest_first xs)) ≡ map new (oldest_first xs)
shown_each change old new {xs} same = map-map change old (oldest_first xs) ∙ map_same (λ x. change (old x)) new (all_in_order same)

-- one more at the end
pub shown_more : {A B : Type 0} (new : A → B) (x : A) (xs : List A) (shown : List B) (last : B) → shown ≡ map new (oldest_first xs) → last ≡ new x →
    shown ++ (last ∷ []) ≡ map new (oldest_first (x ∷ xs))
shown_more {B} new x xs shown last same same_last =
    ap₂ (λ (l : List B) (y : B). l ++ (y ∷ [])) same same_last ∙ sym (map-append new (oldest_first xs) (x ∷ []))
