-- Laws of the zones: arrays with a place for each, and the zones' judgements by two scans.
use Prim.Native.Nat.{ℕ, zero, suc, ◌+◌, ◌-◌, ◌<◌, ◌≤◌}
use Rattle.std.specs.Prelude.{◌≡◌, Bool, true, false, length, get_or, take, replicate, leb, Err, Ok}
use Rattle.std.proofs.Math.Path.{refl}
use Rattle.std.proofs.Common.{sym, ap, ap₂, subst, ◌∙◌, arith, length-append, length-take, take-take, get_or-take, get_or-append-add, lt-ltb, le-ltb}
use mathlib.Core.List.{List, [], ◌∷◌, ◌++◌, map}
use Rattle.std.proofs.lemmas.List.{length-replicate, get_or-replicate, length-map}
use Rattle.std.proofs.Math.ListN.{get_or-append}
use Rattle.std.proofs.Math.Seq.{take-append_seam}
use Rattle.tagged.specs.Find.{first_place}
use Rattle.field_values.specs.Limits.{most_zones, tier_count, highest_rate}
use Rattle.field_values.specs.Judged.{judge, in_order, Judged}
use Rattle.field_values.proofs.Theorems.Judged.{in_order_end}
use Rattle.book_zones.specs.Zones.{number_width, zone_starts, zone_array, zone_number, zone_numbers, rate_row, zone_rates, judge_row, judge_zones_from, judge_zones}
use Rattle.book_zones.specs.ZoneScans.{first_zone, zones_apart, judge_rise, judge_rows, lower}
use Rattle.book_zones.proofs.Theorems.ZoneFields.{every, tag_narrow_or_wide, ZonesStand}

-- ---- arrays with a place for each zone
module _ {A : Type 0} (nothing : A) (elements : List A) where
  pub length_zone_array : length (zone_array nothing elements) ≡ most_zones
  length_zone_array = simp (length-take, length-append, length-replicate) (omega arith)

  pub zone_array_past : (i : ℕ) (d : A) → length elements ≤ i → i < most_zones → get_or (zone_array nothing elements) i d ≡ nothing
  zone_array_past i d h k =
      let on : i ≡ length elements + (i - length elements) = omega arith in
      get_or-take most_zones (elements ++ replicate most_zones nothing) i d k
      ∙ ap (λ j. get_or (elements ++ replicate most_zones nothing) j d) on
      ∙ get_or-append-add elements (replicate most_zones nothing) (i - length elements) d
      ∙ get_or-replicate most_zones (i - length elements) nothing d (omega arith)

  module _ (fits : length elements ≤ most_zones) where
    pub zone_array_first : take (length elements) (zone_array nothing elements) ≡ elements
    zone_array_first = take-take (length elements) most_zones _ fits ∙ take-append_seam elements (replicate most_zones nothing)

    pub zone_array_get_or : (i : ℕ) (d : A) → i < length elements → get_or (zone_array nothing elements) i d ≡ get_or elements i d
    zone_array_get_or i d h = get_or-take most_zones (elements ++ replicate most_zones nothing) i d (omega arith) ∙ get_or-append elements (replicate most_zones nothing) d i h

-- ---- a judgement that fails, if at all, at a place of which P holds
data FailsAt (P : ℕ → Type 0) : Judged → Type 0 where
  passes : FailsAt P (Ok tt)
  fails : {at : ℕ} → P at → FailsAt P (Err at)

weaken : {P Q : ℕ → Type 0} {a : Judged} → ((at : ℕ) → P at → Q at) → FailsAt P a → FailsAt Q a
weaken f passes = passes
weaken f (fails {at} h) = fails (f at h)

in_order_fails_at : {P : ℕ → Type 0} {a b : Judged} → FailsAt P a → FailsAt P b → FailsAt P (in_order a b)
in_order_fails_at passes k = k
in_order_fails_at (fails h) k = fails h

judge_fails_at : {P : ℕ → Type 0} (b : Bool) (at : ℕ) {later : Judged} → P at → FailsAt P later → FailsAt P (in_order (judge b at) later)
judge_fails_at true at h k = k
judge_fails_at false at h k = fails h

-- a zone's rates stand behind one another
row_fails_at : (rates : ℕ) (row : List ℕ) → FailsAt (λ p. (rates ≤ p) × (p ≤ rates + 16)) (judge_row rates row)
row_fails_at rates row =
    judge_fails_at (leb (get_or row 0 0) highest_rate) rates (omega arith, omega arith)
    (on 1 4 (omega arith, omega arith) (on 2 8 (omega arith, omega arith) (on 3 12 (omega arith, omega arith) (on 4 16 (omega arith, omega arith) passes))))
  where
    P : ℕ → Type 0
    P p = (rates ≤ p) × (p ≤ rates + 16)

    on : (tier k : ℕ) {later : Judged} → P (rates + k) → FailsAt P later → FailsAt P (in_order (judge (leb (get_or row tier 0) highest_rate) (rates + k)) later)
    on tier k = judge_fails_at (leb (get_or row tier 0) highest_rate) (rates + k)

module _ (apart : ℕ) where
  rise_fails_at : (from least at : ℕ) (numbers : List ℕ) → from ≤ at → FailsAt (λ p. from ≤ p) (judge_rise apart least at numbers)
  unfolding judge_rise
  rise_fails_at from least at [] h = passes
  rise_fails_at from least at (number ∷ numbers) h =
      judge_fails_at (leb least number) at h (rise_fails_at from (number + 1) (at + apart) numbers (omega arith))

  rows_fail_at : (from rates : ℕ) (rows : List (List ℕ)) → from < rates → FailsAt (λ p. from < p) (judge_rows apart rates rows)
  unfolding judge_rows
  rows_fail_at from rates [] h = passes
  rows_fail_at from rates (row ∷ rows) h =
      in_order_fails_at (weaken (λ p k. omega arith) (row_fails_at rates row)) (rows_fail_at from (rates + apart) rows (omega arith))

-- ---- the lower of two failures
lower_first : {at : ℕ} {other : Judged} → FailsAt (λ p. at < p) other → lower (Err at) other ≡ Err at
lower_first passes = refl
lower_first {at} (fails {at = p} h) = rw (le-ltb p at (omega arith))

lower_later : {end : ℕ} {a b : Judged} (c : Judged) → FailsAt (λ p. end ≤ p) a → FailsAt (λ p. p < end) b → lower a (in_order b c) ≡ in_order b (lower a c)
lower_later c x passes = refl
lower_later c passes (fails k) = refl
lower_later c (fails {at = p} h) (fails {at = q} k) = rw (lt-ltb q p (omega arith))

-- Where a zone's rates end before the next zone starts, the lower place of the two scans is the first in byte order.
module _ (s : List ℕ) (apart : ℕ) (narrow : 1 ≤ number_width s) (before_next : number_width s + 16 < apart) where
  pub two_scans : (n least at : ℕ) →
      lower (judge_rise apart least at (map (zone_number s) (every apart at n))) (judge_rows apart (at + number_width s) (map (rate_row s) (every apart at n)))
      ≡ judge_zones_from least s (every apart at n)
  unfolding every judge_rise judge_rows judge_zones_from
  two_scans zero least at = refl
  two_scans (suc n) least at = by_number (leb least number) (two_scans n (number + 1) (at + apart))
    where
      number : ℕ
      number = zone_number s at

      numbers : List ℕ
      numbers = map (zone_number s) (every apart (at + apart) n)

      rates : List (List ℕ)
      rates = map (rate_row s) (every apart (at + apart) n)

      row : Judged
      row = judge_row (at + number_width s) (rate_row s at)

      rise : Judged
      rise = judge_rise apart (number + 1) (at + apart) numbers

      rows : Judged
      rows = judge_rows apart (at + number_width s + apart) rates

      later : Judged
      later = judge_zones_from (number + 1) s (every apart (at + apart) n)

      moved : judge_rows apart (at + apart + number_width s) rates ≡ rows
      moved = ap (λ place. judge_rows apart place rates) (omega arith)

      by_number : (b : Bool) → lower rise (judge_rows apart (at + apart + number_width s) rates) ≡ later →
          lower (in_order (judge b at) rise) (in_order row rows) ≡ in_order (judge b at) (in_order row (in_order later (Ok tt)))
      by_number true e =
          lower_later rows (rise_fails_at apart (at + apart) (number + 1) (at + apart) numbers (omega arith))
          (weaken (λ p k. omega arith) (row_fails_at (at + number_width s) (rate_row s at)))
          ∙ ap (in_order row) (ap (lower rise) (sym moved) ∙ e ∙ sym (in_order_end later))
      by_number false e =
          lower_first (in_order_fails_at (weaken (λ p k. omega arith) (row_fails_at (at + number_width s) (rate_row s at)))
          (rows_fail_at apart at (at + number_width s + apart) rates (omega arith)))

-- the elements of such an array that are a zone's
pub zones_first : {A : Type 0} (nothing : A) (f : ℕ → A) (s : List ℕ) → ZonesStand s →
    take (length (zone_starts s)) (zone_array nothing (map f (zone_starts s))) ≡ map f (zone_starts s)
zones_first nothing f s stand =
    let count = length-map (zone_starts s) f in
    rw (← count) (zone_array_first nothing (map f (zone_starts s)) (omega (arith, count, stand.most)))

get_d_map : {A : Type 0} (f : ℕ → A) (l : List ℕ) (i : ℕ) (d : A) → i < length l → get_or (map f l) i d ≡ f (get_or l i 0)
get_d_map f [] i d h = absurd (omega arith)
get_d_map f (x ∷ l) zero d h = refl
get_d_map f (x ∷ l) (suc i) d h = get_d_map f l i d (omega arith)

pub zone_get_or : {A : Type 0} (nothing : A) (f : ℕ → A) (s : List ℕ) → ZonesStand s → (i : ℕ) (d : A) → i < length (zone_starts s) →
    get_or (zone_array nothing (map f (zone_starts s))) i d ≡ f (get_or (zone_starts s) i 0)
zone_get_or nothing f s stand i d h =
    let count = length-map (zone_starts s) f in
    zone_array_get_or nothing (map f (zone_starts s)) (omega (arith, count, stand.most)) i d (omega (arith, count)) ∙ get_d_map f (zone_starts s) i d h

pub zone_past : {A : Type 0} (nothing : A) (f : ℕ → A) (s : List ℕ) (i : ℕ) (d : A) → length (zone_starts s) ≤ i → i < most_zones →
    get_or (zone_array nothing (map f (zone_starts s))) i d ≡ nothing
zone_past nothing f s i d h k = zone_array_past nothing (map f (zone_starts s)) i d (omega (arith, length-map (zone_starts s) f)) k

-- the number stands before the rates, and they before the next zone
pub width_within : (s : List ℕ) → (1 ≤ number_width s) × (number_width s ≤ 2)
width_within s = let range = tag_narrow_or_wide (first_place 9 s) in (omega (arith, range), omega (arith, range))

pub judge_zones_by_scans : (s : List ℕ) → ZonesStand s →
    lower (judge_rise (zones_apart s) 0 (first_zone s) (take (length (zone_starts s)) (zone_numbers s)))
    (judge_rows (zones_apart s) (first_zone s + number_width s) (take (length (zone_starts s)) (zone_rates s)))
    ≡ judge_zones s
judge_zones_by_scans s stand =
    let apart = zones_apart s in
    let first = first_zone s in
    let width = number_width s in
    ap₂ (λ numbers rates. lower (judge_rise apart 0 first numbers) (judge_rows apart (first + width) rates)) (zones_first 0 (zone_number s) s stand)
    (zones_first (replicate tier_count 0) (rate_row s) s stand)
    ∙ subst (λ l. lower (judge_rise apart 0 first (map (zone_number s) l)) (judge_rows apart (first + width) (map (rate_row s) l)) ≡ judge_zones_from 0 s l)
    (sym stand.apart) (two_scans s apart (width_within s).0 (omega (arith, width_within s)) (length (zone_starts s)) 0 first)
