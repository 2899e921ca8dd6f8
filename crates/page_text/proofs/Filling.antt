-- A page is its lines, one behind the other.
use mathlib.Core.Path.{◌≡◌, refl}
use mathlib.Core.List.{List, [], ◌∷◌, flatten}
use Prim.Native.Nat.{ℕ}
use Rattle.std.specs.List.{flat_map}
use Rattle.std.proofs.Common.{sym}
use Rattle.std.proofs.lemmas.List.Concat.{flat_map-cons}
use Rattle.reconciliation.specs.declared.Reconciliation.{Reconciliation}
use Rattle.page_text.specs.Page.{page_lines, page_of}

flattened : (lines : List (List ℕ)) → flat_map (λ (l : List ℕ). l) lines ≡ flatten lines
unfolding flatten
flattened [] = refl
flattened (l ∷ lines) = rw (flat_map-cons, flattened lines)

pub page_joined : (r : Reconciliation) → page_of r ≡ flat_map (λ (l : List ℕ). l) (page_lines r)
unfolding page_of
page_joined r = sym (flattened (page_lines r))
