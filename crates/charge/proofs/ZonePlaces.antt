-- The row of a zone as the place of its number among those of the book's zones.
use Rattle.std.specs.Prelude.{ℕ, zero, suc, ◌+◌, ◌<◌, ◌≤◌, ◌≡◌, refl, Bool, true, false, cond, List, Some, eqb, length, take, drop, get_or}
use Rattle.std.proofs.Common.{arith, sym, ◌∙◌, add-one, drop-cons}
use Rattle.std.specs.List.{position, position_from}
use Rattle.std.proofs.lemmas.Iterator.Adapters.{position_from-zero}
use Rattle.charge.specs.Price.{zone_found}

zone_from : (k zones : ℕ) (numbers : List ℕ) (number : ℕ) → k + zones ≤ length numbers →
    position_from (λ listed. eqb listed number) k (take zones (drop k numbers)) ≡ zone_found k zones numbers number
unfolding zone_found
zone_from k zero numbers number h = refl
zone_from k (suc zones) numbers number h =
    let inside : k < length numbers = omega arith in
    rw (drop-cons numbers k 0, ← add-one) (by (eqb (get_or numbers k 0) number) (zone_from (k + 1) zones numbers number (omega arith)))
  where
    by : (test : Bool) → position_from (λ listed. eqb listed number) (k + 1) (take zones (drop (k + 1) numbers)) ≡ zone_found (k + 1) zones numbers number →
        cond test (Some k) (position_from (λ listed. eqb listed number) (k + 1) (take zones (drop (k + 1) numbers)))
        ≡ cond test (Some k) (zone_found (k + 1) zones numbers number)
    by true later = refl
    by false later = later

pub zone_position : (zones : ℕ) (numbers : List ℕ) (number : ℕ) → zones ≤ length numbers →
    zone_found 0 zones numbers number ≡ position (λ listed. eqb listed number) (take zones numbers)
zone_position zones numbers number h = sym (position_from-zero _ (take zones numbers) ∙ zone_from 0 zones numbers number (omega arith))
