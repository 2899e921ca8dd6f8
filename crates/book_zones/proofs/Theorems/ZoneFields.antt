-- Where the zones of a book that walks stand: its last fields are 1 to 8 fields 08 of 24 bytes each, or 09 of 25, up to the end of the fields.
use Rattle.std.specs.Prelude.{ℕ, zero, suc, ◌+◌, ◌*◌, ◌<◌, ◌≤◌, ◌≡◌, Bool, true, false, cond, length, get_or, take, drop, eqb, None, Some, Option, Ok, refl}
use Rattle.std.proofs.Math.Path.{refl, ap, ap₂}
use Rattle.std.proofs.Common.{sym, subst, ◌∙◌, ⊎_elim, arith, eqb-true, eq-eqb}
use mathlib.Core.List.{List, [], ◌∷◌, ◌++◌, map, Memᴰ}
use Rattle.std.proofs.lemmas.Bool.{false≢true, eqb-false}
use Rattle.std.proofs.lemmas.List.{length-map}
use Rattle.field_walk.specs.Walk.{tag_of, least_of, most_of, permitted_by, first_form, second_form, rows_in, walk_by, FieldAt, fields, Walk, stops, walk}
use Rattle.field_walk.specs.Walked.{walked}
use Rattle.field_walk.specs.FieldsWalk.{FieldsWalk}
use Rattle.tagged.specs.Find.{place_at, fields_of, fields_with, first_with, first_place, start_of}
use Rattle.tagged.specs.declared.find.Place.{Place}
use Rattle.tagged.proofs.Theorems.FieldsWith.{with_past, with_all}
use Rattle.tagged.specs.WalkRelations.{Stand, next_row, field, Fields, none, first}
use Rattle.tagged.proofs.Theorems.Walk.{by_test, Stand-had, Stand-once, Stand-last, walk_by_form, walk_by_stands, walk_fields, permitted_length}
use Rattle.tagged.proofs.Theorems.FoundFields.{walk_by_finds, walk_by_finds_none, walk_fields_of, walk_next}
use Rattle.field_values.specs.Limits.{most_zones}
use Rattle.book_zones.specs.BookRows.{book_rows}
use Rattle.book_zones.specs.Zones.{tag_by, zone_tag, zone_starts}
use Rattle.book_zones.specs.ZoneScans.{first_zone, zones_apart}

-- offsets so far apart
unfoldable pub every : ℕ → ℕ → ℕ → List ℕ
every apart at zero = []
every apart at (suc n) = at ∷ every apart (at + apart) n

pub every_get_or : (apart at n i d : ℕ) → i < n → get_or (every apart at n) i d ≡ at + apart * i
unfolding every
every_get_or apart at zero i d h = absurd (omega arith)
every_get_or apart at (suc n) zero d h = omega arith
every_get_or apart at (suc n) (suc i) d h = omega (arith, every_get_or apart (at + apart) n i d (omega arith))

-- a zone's number has one byte or two
pub tag_narrow_or_wide : (place : Option Place) → (8 ≤ tag_by place) × (tag_by place ≤ 9)
tag_narrow_or_wide None = (omega arith, omega arith)
tag_narrow_or_wide (Some place) = (omega arith, omega arith)

pub record ZonesStand (s : List ℕ) : Type 0 where
  pub least : 1 ≤ length (zone_starts s)
  pub most : length (zone_starts s) ≤ most_zones
  pub apart : zone_starts s ≡ every (zones_apart s) (first_zone s) (length (zone_starts s))
  pub ends : first_zone s + zones_apart s * length (zone_starts s) ≡ length s + 3

-- each of these rows has another tag, and its field comes once: a computed test
abbrev once_before : ℕ → List (List ℕ) → Bool
once_before tag [] = true
once_before tag (row ∷ rows) =
    cond (eqb (tag_of row) tag) false (cond (eqb (least_of row) 1) (cond (eqb (most_of row) 1) (once_before tag rows) false) false)

-- the fields by the rows that follow, as a reader of the fields with this tag sees them
record Behind (tag : ℕ) (rows : List (List ℕ)) (s : List ℕ) (fs : List FieldAt) : Type 0 where
  at : ℕ
  others : List FieldAt
  inside : at ≤ length s
  stand : Stand rows 0 others
  are : Fields s at others
  all_with : fields_with tag fs ≡ fields_with tag others
  first_with_same : first_with tag fs ≡ first_with tag others

once_before_lem : (tag : ℕ) (row : List ℕ) (rows : List (List ℕ)) → once_before tag (row ∷ rows) ≡ true →
    (eqb (tag_of row) tag ≡ false) × (least_of row ≡ 1) × (most_of row ≡ 1) × (once_before tag rows ≡ true)
once_before_lem tag row rows =
    by_test P (eqb (tag_of row) tag) _ _ never
    (λ t. by_test P (eqb (least_of row) 1) _ _ (λ l. by_test P (eqb (most_of row) 1) _ _ (λ m e. (t, eqb-true _ _ l, eqb-true _ _ m, e)) never) never)
  where
    P : Bool → Type 0
    P b = b ≡ true → (eqb (tag_of row) tag ≡ false) × (least_of row ≡ 1) × (most_of row ≡ 1) × (once_before tag rows ≡ true)

    never : {A : Type 0} → A → P false
    never a e = absurd (false≢true e)

first_past : (tag : ℕ) (f : FieldAt) (fs : List FieldAt) → eqb f.tag tag ≡ false → first_with tag (f ∷ fs) ≡ first_with tag fs
unfolding first_with
first_past tag f fs other = rw other

behind : (tag : ℕ) (front rows : List (List ℕ)) (s : List ℕ) (at : ℕ) (fs : List FieldAt) → once_before tag front ≡ true → at ≤ length s →
    Stand (front ++ rows) 0 fs → Fields s at fs → Behind tag rows s fs
behind tag [] rows s at fs t h x y = record { at = at; others = fs; inside = h; stand = x; are = y; all_with = refl; first_with_same = refl }
behind tag (row ∷ front) rows s at fs t h x y =
    let o = once_before_lem tag row front t in
    let w = Stand-once x o.1 o.2 in
    let n = walk_next (subst (Fields s at) w.are y) in
    let b = behind tag front rows s (at + (w.f.len + 3)) w.others o.3 (omega (arith, n.stands.start, n.stands.within)) w.rest n.rest in
    let other : eqb w.f.tag tag ≡ false = ap (λ k. eqb k tag) w.of_row.tag ∙ o.0 in
    record {
      at = b.at;
      others = b.others;
      inside = b.inside;
      stand = b.stand;
      are = b.are;
      all_with = ap (fields_with tag) w.are ∙ with_past tag w.f w.others (eqb-false _ _ other) ∙ b.all_with;
      first_with_same = ap (first_with tag) w.are ∙ first_past tag w.f w.others other ∙ b.first_with_same;
    }

-- fields with one tag and of one length, one after the other
module _ (tag size : ℕ) (s : List ℕ) where
  abbrev Each : List FieldAt → Type 0
  Each fs = (f : FieldAt) → Memᴰ f fs → (f.tag ≡ tag) × (f.len ≡ size)

  starts_apart : {at : ℕ} {fs : List FieldAt} → Fields s at fs → Each fs → map (λ f. f.start) fs ≡ every (size + 3) (at + 3) (length fs)
  unfolding every
  starts_apart (none l) of = refl
  starts_apart (first {at} {f} {fs} x y) of =
      let on : at + (f.len + 3) + 3 ≡ at + 3 + (size + 3) = omega (arith, (of f (Memᴰ.head refl)).1) in
      ap₂ ◌∷◌ x.start (starts_apart y (λ g i. of g (Memᴰ.tail i)) ∙ ap (λ k. every (size + 3) k (length fs)) on)

  ends_last : {at : ℕ} {fs : List FieldAt} → Fields s at fs → Each fs → at ≤ length s → at + (size + 3) * length fs ≡ length s
  ends_last (none l) of h = omega arith
  ends_last (first {at} {f} {fs} x y) of h =
      omega (arith, (of f (Memᴰ.head refl)).1, ends_last y (λ g i. of g (Memᴰ.tail i)) (omega (arith, x.start, x.within)))

  first_place_lem : {at : ℕ} {fs : List FieldAt} → Fields s at fs → Each fs → 1 ≤ length fs → first_with tag fs ≡ place_at (at + 3) size
  unfolding first_with
  first_place_lem (none l) of h = absurd (omega arith)
  first_place_lem (first {at} {f} x y) of h =
      let here = of f (Memᴰ.head refl) in
      rw (eq-eqb _ _ here.0) (ap₂ place_at x.start here.1)

-- the last rows of a book, 08 and 09, in files of one form: one of them permits no field
last_absent : {row absent : List ℕ} {n : ℕ} {fs : List FieldAt} → most_of absent ≡ 0 → Stand (row ∷ absent ∷ []) n fs → Stand (row ∷ []) n fs
last_absent none_of (next_row l x) = next_row l (Stand-had x (omega (arith, none_of)))
last_absent none_of (field t p l x) = field t p l (last_absent none_of x)

module _ (s : List ℕ) (fs : List FieldAt) (are : Fields s 0 fs) (found : fields_of s ≡ fs) where
  -- the fields of the last row, by the rows of a form
  module _ (row : List ℕ) (rows : List (List ℕ)) (stand : Stand (take 7 book_rows ++ rows) 0 fs)
      (alone : (others : List FieldAt) → Stand rows 0 others → Stand (row ∷ []) 0 others) where
    last_behind : (tag : ℕ) → once_before tag (take 7 book_rows) ≡ true → Behind tag (row ∷ []) s fs
    last_behind tag once =
        let b = behind tag (take 7 book_rows) rows s 0 fs once (omega arith) stand are in
        record {
          at = b.at;
          others = b.others;
          inside = b.inside;
          stand = alone b.others b.stand;
          are = b.are;
          all_with = b.all_with;
          first_with_same = b.first_with_same;
        }

    module _ (once : once_before (tag_of row) (take 7 book_rows) ≡ true) (one_size : (len : ℕ) → permitted_by row len ≡ true → len ≡ tag_of row + 13)
        (least : least_of row ≡ 1) (most : most_of row ≡ most_zones) where
      b : Behind (tag_of row) (row ∷ []) s fs
      b = last_behind (tag_of row) once

      each : Each (tag_of row) (tag_of row + 13) s b.others
      each f i = let of = (Stand-last b.stand).2 f i in (of.tag, one_size f.len of.permitted)

      some : 1 ≤ length b.others
      some = omega (arith, (Stand-last b.stand).0, least)

      zones_of : zone_tag s ≡ tag_of row → ZonesStand s
      zones_of tag_is =
          let starts : zone_starts s ≡ map (λ f. f.start) b.others =
          ap₂ (λ tag x. map (λ f. f.start) (fields_with tag x)) tag_is found
          ∙ ap (map (λ f. f.start)) (b.all_with ∙ with_all (tag_of row) b.others (λ f i. (each f i).0)) in
          let count : length (zone_starts s) ≡ length b.others = ap length starts ∙ length-map b.others _ in
          let place : first_place (tag_of row) s ≡ place_at (b.at + 3) (tag_of row + 13) =
          ap (first_with (tag_of row)) found ∙ b.first_with_same ∙ first_place_lem (tag_of row) (tag_of row + 13) s b.are each some in
          let start : first_zone s ≡ b.at + 3 = ap (λ tag. start_of (first_place tag s)) tag_is ∙ ap start_of place in
          let range = tag_narrow_or_wide (first_place 9 s) in
          let apart : zones_apart s ≡ tag_of row + 13 + 3 = omega (arith, range, tag_is) in
          record {
            least = omega (arith, some, count);
            most = omega (arith, (Stand-last b.stand).1, most, count);
            apart = starts ∙ starts_apart (tag_of row) (tag_of row + 13) s b.are each ∙ sym (λ i. every (apart i) (start i) (count i));
            ends =
                ap₂ (λ far n. first_zone s + far * n) apart count
                ∙ omega (arith, start, ends_last (tag_of row) (tag_of row + 13) s b.are each b.inside);
          }

-- of the first form, or of the second
pub zones_stand : (s : List ℕ) → FieldsWalk book_rows s → ZonesStand s
zones_stand s (fs, walks) = ⊎_elim narrow wide (walk_by_form book_rows s fs walks)
  where
    are : Fields s 0 fs
    are = walk_fields book_rows s fs walks

    found : fields_of s ≡ fs
    found = walk_fields_of book_rows s fs walks

    narrow : walk_by (rows_in first_form book_rows) s ≡ fields fs → ZonesStand s
    narrow e =
        let row = get_or book_rows 7 [] in
        let rows = rows_in first_form book_rows in
        zones_of s fs are found row (drop 7 rows) (walk_by_stands rows s fs e) (λ others x. last_absent refl x) refl
        (λ len p. omega (arith, permitted_length row len p)) refl refl (ap tag_by (walk_by_finds_none rows s fs e 9 refl))

    wide : walk_by (rows_in second_form book_rows) s ≡ fields fs → ZonesStand s
    wide e =
        let row = get_or book_rows 8 [] in
        let rows = rows_in second_form book_rows in
        zones_of s fs are found row (drop 7 rows) (walk_by_stands rows s fs e) (λ others x. Stand-had x (omega arith)) refl
        (λ len p. omega (arith, permitted_length row len p)) refl refl (ap tag_by (walk_by_finds rows s fs refl e 8 (omega arith) (omega arith)).found)

-- a walk that is answered with every field standing
walks_when : (rows : List (List ℕ)) (s : List ℕ) (w : Walk) → walk rows s ≡ w → walked w ≡ Ok tt → FieldsWalk rows s
walks_when rows s (fields fs) e h = (fs, e)
walks_when rows s (stops at) e h = absurd (cc)

pub fields_walk : (s : List ℕ) → walked (walk book_rows s) ≡ Ok tt → FieldsWalk book_rows s
fields_walk s h = walks_when book_rows s (walk book_rows s) refl h

pub walked_when : (s : List ℕ) → FieldsWalk book_rows s → walked (walk book_rows s) ≡ Ok tt
walked_when s (fs, e) = rw e
