-- The converse: where the tags rise, fields that stand by the rows and are the file are its walk, and so the bytes of tags and values walk.
use Rattle.std.specs.Prelude.{ℕ, zero, suc, ◌+◌, ◌-◌, ◌<◌, ◌≤◌, ◌≡◌, refl, ◌⊎◌, Bool, true, false, cond, drop, ltb, eqb, Some}
use Rattle.std.proofs.Math.Path.{sym, ap}
use Rattle.std.proofs.Common.{ap₂, ◌∙◌, ⊎_elim, add-zero, length-append, get_or-drop, drop_at, le-ltb, le-leb, lt-ltb, eq-eqb, ne_eqb}
use mathlib.Core.List.Memᴰ
use mathlib.Core.List.{List, [], ◌∷◌, ◌++◌, append_assoc, flat_map, Memᴰ}
use native.Mathlib.Omega.{arith}
use Rattle.std.proofs.Math.ListN.{length, get_or, take, length-drop}
use Rattle.std.proofs.Math.Seq.{drop-drop, take_at}
use Rattle.numbers.specs.BigEndian.{number, bytes_of}
use Rattle.numbers.proofs.Theorems.BigEndian.{length_bytes_of, number_of_bytes_of}
use Rattle.field_walk.specs.Walk.{tag_of, least_of, most_of, highest_of, due_from, all_had, permitted_by, front_of, FieldAt, Walk, fields, stops, walk_from, first_form, second_form, neither_form, rows_in, walk_by, by_forms, walk}
use Rattle.tagged.specs.WalkRelations.{Stand, end, next_row, field, StandsAt, Fields, none, first}
use Rattle.tagged.proofs.Theorems.Walk.{permitted_length, both_hold, rest_tag}
use Rattle.tagged.specs.Encoded.{encoded_parts}
use Rattle.tagged.specs.WalkEncoded.{parts_of, Short, places_from}
use Rattle.tagged.specs.RisingTags.{tags_above, rising_tags}
use Rattle.tagged.proofs.Theorems.FoundFields.{walk_seen, walk_by_fields_of, rising_rest}

-- a field that stands by rows above a tag is above it
pub Stand-above : {rows : List (List ℕ)} {n : ℕ} {f : FieldAt} {fs : List FieldAt} → Stand rows n (f ∷ fs) → (tag : ℕ) → tags_above tag rows ≡ true → tag < f.tag
Stand-above (next_row {row} {rows} l x) tag e = let h = both_hold tag (tag_of row) (rising_tags (row ∷ rows)) e in omega (arith, h.0, Stand-above x (tag_of row) h.1)
Stand-above (field {row} {rows} t p l x) tag e = omega (arith, t, (both_hold tag (tag_of row) (rising_tags (row ∷ rows)) e).0)

-- the first of fields that stand, by its tag: it is of the first row, or that row is past
pub Stand-same : {row : List ℕ} {rows : List (List ℕ)} {n : ℕ} {f : FieldAt} {fs : List FieldAt} → Stand (row ∷ rows) n (f ∷ fs) →
    rising_tags (row ∷ rows) ≡ true → f.tag ≡ tag_of row → (permitted_by row f.len ≡ true) × (n < most_of row) × Stand (row ∷ rows) (n + 1) fs
Stand-same (next_row {row} l x) r e = absurd (omega (arith, Stand-above x (tag_of row) r))
Stand-same (field t p l x) r e = (p, l, x)

pub Stand-past : {row : List ℕ} {rows : List (List ℕ)} {n : ℕ} {f : FieldAt} {fs : List FieldAt} → Stand (row ∷ rows) n (f ∷ fs) →
    (f.tag ≡ tag_of row → ⊥) → (least_of row ≤ n) × Stand rows 0 (f ∷ fs)
Stand-past (next_row l x) e = (l, x)
Stand-past (field t p l x) e = absurd (e t)

had_all : {rows : List (List ℕ)} {n : ℕ} → Stand rows n [] → all_had rows n ≡ true
unfolding all_had
had_all end = refl
had_all (next_row l x) = rw (le-ltb _ _ l) (had_all x)

-- a field that stands by the rows is due, i rows on
record DueAt (rows : List (List ℕ)) (k n : ℕ) (f : FieldAt) (fs : List FieldAt) : Type 0 where
  i : ℕ
  n' : ℕ
  due : due_from rows k n f.tag ≡ Some (k + i, n')
  permitted : permitted_by (get_or rows i []) f.len ≡ true
  rest : Stand (drop i rows) n' fs
  rising : rising_tags (drop i rows) ≡ true

is_due : {rows : List (List ℕ)} {n : ℕ} {f : FieldAt} {fs : List FieldAt} → Stand rows n (f ∷ fs) → rising_tags rows ≡ true → (k : ℕ) → DueAt rows k n f fs
unfolding due_from
is_due {n} {f} (next_row {row} {rows} l x) r k =
    let h = is_due x (rising_rest (tag_of row) rows r) (k + 1) in
    let place : k + 1 + h.i ≡ k + suc h.i = omega arith in
    let other : eqb (tag_of row) f.tag ≡ false = ne_eqb (tag_of row) f.tag (λ e. omega (arith, Stand-above x (tag_of row) r)) in
    record { i = suc h.i; n' = h.n'; due = rw (other, le-ltb _ _ l, h.due, place); permitted = h.permitted; rest = h.rest; rising = h.rising }
is_due {n} (field t p l x) r k = record { i = 0; n' = n + 1; due = rw (eq-eqb _ _ (sym t), lt-ltb _ _ l, add-zero); permitted = p; rest = x; rising = r }

-- the walk of such fields from any offset of the file on
walk_back : (rows : List (List ℕ)) {s : List ℕ} {at : ℕ} {fs : List FieldAt} → Fields s at fs → (most k n : ℕ) → length s - at < most →
    Stand (drop k rows) n fs → rising_tags (drop k rows) ≡ true → walk_from most rows k n at (drop at s) ≡ fields fs
unfolding walk_from front_of
walk_back rows (none l) zero k n m x r = absurd (omega arith)
walk_back rows {s} (none {at} l) (suc most) k n m x r =
    let e : length (drop at s) ≡ 0 = simp length-drop (omega arith) in
    rw (eq-eqb _ _ e, had_all x)
walk_back rows (first y z) zero k n m x r = absurd (omega arith)
walk_back rows {s} (first {at} {f} {fs} y z) (suc most) k n m x r =
    let d = is_due x r k in
    let k' = k + d.i in
    let ih : walk_from most rows k' d.n' (at + (f.len + 3)) (drop (at + (f.len + 3)) s) ≡ fields fs =
    walk_back rows z most k' d.n' (omega (arith, y.start, y.within)) (rw drop-drop at d.rest) (rw drop-drop at d.rising) in
    let w = walk_seen s at f y in
    let permitted : permitted_by (get_or rows k' []) f.len ≡ true = rw get_or-drop at d.permitted in
    let some : eqb (length (drop at s)) 0 ≡ false = ne_eqb (length (drop at s)) 0 (λ e. omega (arith, w.ends)) in
    rw (some, le-ltb (length (drop at s)) 3 (omega (arith, w.ends)), w.tag, d.due, w.len, permitted, le-leb _ _ w.ends, drop-drop, ih)
    (λ i. fields (record { tag = f.tag; start = sym y.start i; len = f.len } ∷ fs))

-- Where the tags rise, fields that stand by the rows and are the file are what the walk by them gives.
pub walk_of_fields : (rows : List (List ℕ)) (s : List ℕ) (fs : List FieldAt) →
    rising_tags rows ≡ true → Stand rows 0 fs → Fields s 0 fs → walk_by rows s ≡ fields fs
walk_of_fields rows s fs r x y = walk_back rows y (length s + 1) 0 0 (omega arith) x r

-- A file that walks by the rows of one form walks: its fields are the same by the other form, if it walks by that too.
pub walk_in_form : (rows : List (List ℕ)) (s : List ℕ) (fs : List FieldAt) →
    (walk_by (rows_in first_form rows) s ≡ fields fs) ⊎ (walk_by (rows_in second_form rows) s ≡ fields fs) → walk rows s ≡ fields fs
walk_in_form rows s fs = ⊎_elim (λ e. rw e) (λ e. by_first (walk_by (rows_in first_form rows) s) refl e)
  where
    by_first : (first : Walk) → walk_by (rows_in first_form rows) s ≡ first → walk_by (rows_in second_form rows) s ≡ fields fs →
        by_forms first (walk_by (rows_in second_form rows) s) (walk_by (rows_in neither_form rows) s) ≡ fields fs
    by_first (stops at) same e = rw e
    by_first (fields other) same e =
        ap fields (sym (walk_by_fields_of (rows_in first_form rows) s other same) ∙ walk_by_fields_of (rows_in second_form rows) s fs e)

-- which holds of fields that stand by rows that permit no other lengths, a computed test
abbrev pub short_rows : List (List ℕ) → Bool
short_rows [] = true
short_rows (row ∷ rows) = cond (ltb (highest_of row) 65536) (short_rows rows) false

pub Stand-short : {rows : List (List ℕ)} {n : ℕ} {fs : List FieldAt} → Stand rows n fs → short_rows rows ≡ true → Short fs
Stand-short end h f i = absurd (Memᴰ.not-nil i)
Stand-short (next_row {row} {rows} l x) h f i = Stand-short x (both_hold (highest_of row) 65536 (short_rows rows) h).1 f i
Stand-short (field {row} {rows} {f = g} t p l x) h f i =
    let here : g.len < 65536 = omega (arith, permitted_length row g.len p, (both_hold (highest_of row) 65536 (short_rows rows) h).0) in
    ⊎_elim (λ e. rw e here) (Stand-short x h f) (Memᴰ.cases_cons i)

-- parts stand by the rows where those in front are of the first row, as many as it permits, and the others stand by the rows after it
pub Stand-parts : (row : List ℕ) (rows : List (List ℕ)) (n at : ℕ) (mine others : List (ℕ × List ℕ)) →
    ((part : ℕ × List ℕ) → Memᴰ part mine → (part.0 ≡ tag_of row) × (permitted_by row (length part.1) ≡ true)) →
    least_of row ≤ n + length mine → n + length mine ≤ most_of row → ((at' : ℕ) → Stand rows 0 (places_from at' others)) →
    Stand (row ∷ rows) n (places_from at (mine ++ others))
unfolding places_from
Stand-parts row rows n at [] others h l m x = let enough : least_of row ≤ n = omega arith in next_row enough (x at)
Stand-parts row rows n at (part ∷ mine) others h l m x =
    let p = h part (Memᴰ.head refl) in
    let few : n < most_of row = omega arith in
    field p.0 p.1 few (Stand-parts row rows (n + 1) _ mine others (λ q i. h q (Memᴰ.tail i)) (omega arith) (omega arith) x)

-- where the file from an offset on is the bytes of parts, the first of them stands there
module _ (s : List ℕ) (at : ℕ) (part : ℕ × List ℕ) (parts : List (ℕ × List ℕ)) (are : drop at s ≡ encoded_parts (part ∷ parts)) where
  two : List ℕ
  two = bytes_of 2 (length part.1)

  after_tag : drop (at + 1) s ≡ two ++ (part.1 ++ encoded_parts parts)
  unfolding flat_map two
  after_tag = sym (drop-drop 1 at s) ∙ ap (drop 1) are ∙ append_assoc two part.1 (encoded_parts parts)

  after_length : drop (at + 3) s ≡ part.1 ++ encoded_parts parts
  unfolding two
  after_length =
      let three : at + 3 ≡ at + 1 + 2 = omega arith in
      rw (three, ← drop-drop, after_tag) (drop_at two (part.1 ++ encoded_parts parts) 2 (length_bytes_of 2 (length part.1)))

  after_part : drop (at + (length part.1 + 3)) s ≡ encoded_parts parts
  after_part =
      let end_is : at + (length part.1 + 3) ≡ at + 3 + length part.1 = omega arith in
      rw (end_is, ← drop-drop, after_length) (drop_at part.1 (encoded_parts parts) (length part.1) refl)

  part_value : take (length part.1) (drop (at + 3) s) ≡ part.1
  part_value = rw after_length (take_at part.1 (encoded_parts parts) (length part.1) refl)

  part_stands : length part.1 < 65536 → StandsAt s at (record { tag = part.0; start = at + 3; len = length part.1 })
  unfolding flat_map two
  part_stands h =
      let first_two : take 2 (two ++ (part.1 ++ encoded_parts parts)) ≡ two = take_at two _ 2 (length_bytes_of 2 (length part.1)) in
      record {
        tag = sym (ap (λ l. get_or l 0 0) are) ∙ rest_tag s at;
        start = refl;
        len = sym (ap (λ l. number (take 2 l)) after_tag ∙ ap number first_two ∙ number_of_bytes_of 2 (length part.1) h);
        within = omega (arith, length-drop at s, simp (length-append, length_bytes_of) at (ap length are));
      }

pub encoded_fields : (s : List ℕ) (at : ℕ) (parts : List (ℕ × List ℕ)) → drop at s ≡ encoded_parts parts → Short (places_from at parts) → Fields s at (places_from at parts)
unfolding places_from flat_map
encoded_fields s at [] e h = none {at = at} (omega (arith, length-drop at s, ap length e))
encoded_fields s at (part ∷ parts) e h =
    first (part_stands s at part parts e (h _ (Memᴰ.head refl))) (encoded_fields s (at + (length part.1 + 3)) parts (after_part s at part parts e) (λ f i. h f (Memᴰ.tail i)))

encoded_parts_lem : (s : List ℕ) (at : ℕ) (parts : List (ℕ × List ℕ)) → drop at s ≡ encoded_parts parts → parts_of s (places_from at parts) ≡ parts
unfolding places_from
encoded_parts_lem s at [] e = refl
encoded_parts_lem s at (part ∷ parts) e =
    ap₂ ◌∷◌ (ap (λ v. (part.0, v)) (part_value s at part parts e)) (encoded_parts_lem s (at + (length part.1 + 3)) parts (after_part s at part parts e))

-- The bytes of tags and values that stand by rows with rising tags walk: each field stands where it was put ..
pub walk_of_encoded : (rows : List (List ℕ)) (parts : List (ℕ × List ℕ)) → rising_tags rows ≡ true → Stand rows 0 (places_from 0 parts) →
    Short (places_from 0 parts) → walk_by rows (encoded_parts parts) ≡ fields (places_from 0 parts)
walk_of_encoded rows parts r x h = walk_of_fields rows (encoded_parts parts) (places_from 0 parts) r x (encoded_fields (encoded_parts parts) 0 parts refl h)

-- .. with the value that was put there.
pub walk_parts_of_encoded : (parts : List (ℕ × List ℕ)) → parts_of (encoded_parts parts) (places_from 0 parts) ≡ parts
walk_parts_of_encoded parts = encoded_parts_lem (encoded_parts parts) 0 parts refl
