-- An array with a place for each zone, filled from the zones of a book.
use Prim.Native.Nat.{ℕ, ◌+◌, ◌*◌, ◌-◌, ◌<◌, ◌≤◌}
use Rattle.std.specs.Prelude.{Ok}
use mathlib.Core.Path.{◌≡◌, sym, ap, ◌∙◌}
use mathlib.Core.List.{List, [], ◌∷◌, ◌++◌, map, map-append, append_assoc}
use native.Mathlib.Omega.{arith}
use lib.ListN.{length, get_or, set, take, replicate, length-append, length-replicate, length-map}
use lib.Seq.{set_at, append_snoc, take-set-lt, take-append-le, length-take-le}
use Rattle.std.proofs.lemmas.List.{take_more}
use Rattle.field_values.specs.Limits.{most_zones, tier_count}
use Rattle.field_walk.specs.Walk.{walk}
use Rattle.field_walk.specs.Walked.{walked}
use Rattle.book_zones.specs.BookRows.{book_rows}
use Rattle.book_zones.specs.Zones.{number_width, zone_starts, zone_array, zone_number, rates_from, rate_row}
use Rattle.book_zones.specs.ZoneScans.{first_zone, zones_apart}
use Rattle.book_zones.proofs.Theorems.ZoneFields.{ZonesStand, every_get_or}
use Rattle.book_zones.proofs.Standing.{stand}

zone_array_more : {A : Type 0} (nothing : A) (xs : List A) (x : A) (i : ℕ) → length xs ≡ i → i < most_zones → set (zone_array nothing xs) i x ≡ zone_array nothing (xs ++ (x ∷ []))
zone_array_more nothing xs x i l h =
    let others = replicate (most_zones - 1) nothing in
    let long : most_zones ≤ length ((xs ++ (x ∷ [])) ++ others) = simp (length-append, length-replicate) (omega arith) in
    sym (take-set-lt most_zones (xs ++ replicate most_zones nothing) i x h)
    ∙ ap (take most_zones) (set_at xs nothing others x i l ∙ sym (append_snoc xs x others))
    ∙ sym (take-append-le most_zones ((xs ++ (x ∷ [])) ++ others) (nothing ∷ []) long)
    ∙ ap (take most_zones) (append_assoc (xs ++ (x ∷ [])) others (nothing ∷ []))

-- the array when i zones are in it
abbrev pub filled_to : {A : Type 0} → A → (ℕ → A) → List ℕ → ℕ → List A
filled_to nothing f s i = zone_array nothing (map f (take i (zone_starts s)))

module _ {A : Type 0} (nothing : A) (f : ℕ → A) (s : List ℕ) (stand : ZonesStand s) where
  filled_more : (i : ℕ) → i < length (zone_starts s) → set (filled_to nothing f s i) i (f (first_zone s + zones_apart s * i)) ≡ filled_to nothing f s (i + 1)
  filled_more i h =
      let starts = zone_starts s in
      let at : first_zone s + zones_apart s * i ≡ get_or starts i 0 =
      sym (ap (λ l. get_or l i 0) stand.apart ∙ every_get_or (zones_apart s) (first_zone s) (length starts) i 0 h) in
      let count : length (map f (take i starts)) ≡ i = length-map (take i starts) f ∙ length-take-le i starts (omega arith) in
      let more : map f (take i starts) ++ (f (get_or starts i 0) ∷ []) ≡ map f (take (i + 1) starts) =
      sym (ap (map f) (take_more starts i 0 h) ∙ map-append f (take i starts) (get_or starts i 0 ∷ [])) in
      rw at (zone_array_more nothing (map f (take i starts)) (f (get_or starts i 0)) i count (omega (arith, stand.most)) ∙ ap (zone_array nothing) more)

-- the array of the rates with a zone's row stored, and that of the numbers with its number
module _ (s : List ℕ) (walks : walked (walk book_rows s) ≡ Ok tt) (i : ℕ) (h : i < length (zone_starts s)) where
  pub rates_more : (rates : List (List ℕ)) (start : ℕ) → start ≡ first_zone s + zones_apart s * i + number_width s →
      rates ≡ filled_to (replicate tier_count 0) (rate_row s) s i → set rates i (rates_from s start) ≡ filled_to (replicate tier_count 0) (rate_row s) s (i + 1)
  rates_more rates start e f = rw (e, f) (filled_more (replicate tier_count 0) (rate_row s) s (stand s walks) i h)

  pub numbers_more : (numbers : List ℕ) (start : ℕ) → start ≡ first_zone s + zones_apart s * i →
      numbers ≡ filled_to 0 (zone_number s) s i → set numbers i (zone_number s start) ≡ filled_to 0 (zone_number s) s (i + 1)
  numbers_more numbers start e f = rw (e, f) (filled_more 0 (zone_number s) s (stand s walks) i h)
