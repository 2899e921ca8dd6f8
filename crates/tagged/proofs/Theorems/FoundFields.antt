-- What follows for a file that walks: where its fields lie, that the file is its fields' bytes, and that the search finds those very parts.
use Rattle.std.specs.Prelude.{ℕ, zero, suc, ◌+◌, ◌-◌, ◌%◌, ◌<◌, ◌≤◌, ◌≡◌, refl, Bool, true, false, cond, length, get_or, take, drop, eqb, None, Some, Option}
use Rattle.std.proofs.Common.{sym, ap, ap₂, subst, ◌∙◌, ⊎_elim, add-one, arith, length-drop, length-take, take-append-drop, drop_of_length-le, drop-drop, drop-cons, take_all, le-ltb, le-leb, lt-ltb, eq-eqb, ne_eqb}
use mathlib.Core.List.Memᴰ
use mathlib.Core.List.{List, [], ◌∷◌, ◌++◌, append_assoc, flat_map, Memᴰ}
use Rattle.std.proofs.lemmas.Bool.{false≢true}
use Rattle.std.proofs.lemmas.List.{length-map}
use Rattle.numbers.specs.BigEndian.{Bytes, number, bytes_of}
use Rattle.numbers.proofs.Theorems.BigEndian.{Bytes-take, Bytes-drop, bytes_of_number}
use Rattle.field_walk.specs.Walk.{tag_of, lowest_of, step_of, least_of, most_of, permitted_by, length_at, FieldAt, value_of, fields, first_form, second_form, neither_form, row_in, rows_in, walk_by, walk}
use Rattle.field_walk.specs.FieldsWalk.{FieldsWalk}
use Rattle.field_walk.proofs.Theorems.Forms.{same_in, row_in_lem, of_both}
use Rattle.tagged.specs.Find.{place_at, whole_field, fields_from, fields_of, first_with, first_place, part_of, start_of, field_value, field_start}
use Rattle.tagged.specs.Parts.{value_place, rest_place}
use Rattle.tagged.specs.Encoded.{encoded, encoded_parts}
use Rattle.tagged.specs.WalkEncoded.{parts_of}
use Rattle.tagged.specs.RisingTags.{tags_above, rising_tags}
use Rattle.tagged.specs.WalkRelations.{Stand, end, next_row, field, StandsAt, Fields, none, first}
use Rattle.tagged.proofs.Theorems.Walk.{walk_by_stands, walk_by_fields, walk_by_form, walk_fields, both_hold, rest_tag, rest_length, permitted_length}
use Rattle.tagged.specs.FoundFields.{Seen, Next, Found}
use Rattle.tagged.specs.Sized.{Sized}
use Rattle.tagged.specs.declared.find.Place.{Place}

Fields-at : {s : List ℕ} {at : ℕ} {fs : List FieldAt} → Fields s at fs → (f : FieldAt) → Memᴰ f fs → (at' : ℕ) × StandsAt s at' f
Fields-at (none l) f i = absurd (Memᴰ.not-nil i)
Fields-at {s} (first {at} x r) f i = ⊎_elim (λ e. (at, subst (StandsAt s at) (sym e) x)) (Fields-at r f) (Memᴰ.cases_cons i)

-- Every field lies inside the file, and the three bytes before its value are its tag and its length.
pub walk_inside : (rows : List (List ℕ)) (s : List ℕ) (fs : List FieldAt) → walk rows s ≡ fields fs →
    (f : FieldAt) → Memᴰ f fs → (at : ℕ) × StandsAt s at f
walk_inside rows s fs e = Fields-at (walk_fields rows s fs e)

pub encoded_parts_append : (parts others : List (ℕ × List ℕ)) → encoded_parts (parts ++ others) ≡ encoded_parts parts ++ encoded_parts others
unfolding flat_map
encoded_parts_append [] others = refl
encoded_parts_append (part ∷ parts) others =
    ap (λ l. encoded part.0 part.1 ++ l) (encoded_parts_append parts others) ∙ sym (append_assoc (encoded part.0 part.1) (encoded_parts parts) (encoded_parts others))

length_part : (s : List ℕ) (at len : ℕ) → at + len ≤ length s → length (take len (drop at s)) ≡ len
length_part s at len h = simp (length-take, length-drop) (omega arith)

module _ (s : List ℕ) (at : ℕ) (f : FieldAt) (x : StandsAt s at f) where
  pub walk_seen : Seen s at f
  walk_seen =
      let len : length_at (drop at s) ≡ f.len = rest_length s at ∙ sym x.len in
      let ends : f.len + 3 ≤ length (drop at s) = simp length-drop (omega (arith, x.start, x.within)) in
      let w : whole_field (drop at s) ≡ true = rw (le-ltb (length (drop at s)) 3 (omega arith), len, le-leb _ _ ends) in
      let v : value_place (drop at s) ≡ place_at 3 f.len = rw (w, len) in
      let r : rest_place (drop at s) ≡ place_at (f.len + 3) (length (drop at s) - (f.len + 3)) = rw (w, len) in
      let l : length (drop (at + (f.len + 3)) s) ≤ length (drop at s) - (f.len + 3) = simp length-drop (omega arith) in
      record {
        tag = rest_tag s at ∙ sym x.tag;
        len = len;
        ends = ends;
        whole = w;
        value_place_is = v;
        rest_place_is = r;
        value = rw (v, drop-drop, ← x.start);
        rest = rw (r, drop-drop) (take_all (length (drop at s) - (f.len + 3)) (drop (at + (f.len + 3)) s) l);
      }

  -- the file from there on is the field's bytes, and then the file after it
  field_encoded : Bytes s → drop at s ≡ encoded f.tag (value_of s f) ++ drop (at + (f.len + 3)) s
  field_encoded b =
      let value = value_of s f in
      let two = take 2 (drop (at + 1) s) in
      let long : length two ≡ 2 = length_part s (at + 1) 2 (omega (arith, x.start, x.within)) in
      let len : length value ≡ number two = length_part s f.start f.len x.within ∙ x.len in
      let spelt : two ≡ bytes_of 2 (length value) = rw len (sym (rw long at (bytes_of_number two (Bytes-take 2 (drop (at + 1) s) (Bytes-drop (at + 1) s b))))) in
      let start : at + 1 + 2 ≡ f.start = omega (arith, x.start) in
      let end_is : f.start + f.len ≡ at + (f.len + 3) = omega (arith, x.start) in
      let after : drop f.start s ≡ value ++ drop (at + (f.len + 3)) s =
      sym (take-append-drop f.len (drop f.start s)) ∙ ap (λ l. value ++ l) (drop-drop f.len f.start s ∙ ap (λ j. drop j s) end_is) in
      let behind : drop (at + 1) s ≡ two ++ drop f.start s =
      sym (take-append-drop 2 (drop (at + 1) s)) ∙ ap (λ l. two ++ l) (drop-drop 2 (at + 1) s ∙ ap (λ j. drop j s) start) in
      let tail : drop (suc at) s ≡ bytes_of 2 (length value) ++ value ++ drop (at + (f.len + 3)) s =
      ap (λ j. drop j s) (sym (add-one at)) ∙ behind ∙ ap₂ ◌++◌ spelt after ∙ sym (append_assoc (bytes_of 2 (length value)) value _) in
      drop-cons s at 0 (omega (arith, x.start, x.within)) ∙ ap₂ ◌∷◌ (sym x.tag) tail

pub walk_next : {s : List ℕ} {at : ℕ} {f : FieldAt} {others : List FieldAt} → Fields s at (f ∷ others) → Next s at f others
walk_next {s} {at} {f} (first x r) = record { stands = x; seen = walk_seen s at f x; rest = r }

-- it has one as long as it is not at the end, and none there
pub walk_more : {s : List ℕ} {at : ℕ} {fs : List FieldAt} → Fields s at fs → at < length s → (f : FieldAt) × (others : List FieldAt) × (fs ≡ f ∷ others)
walk_more (none l) h = absurd (omega arith)
walk_more (first {f} {fs} x r) h = (f, fs, refl)

pub Fields-found : {s : List ℕ} {at : ℕ} {fs : List FieldAt} → Fields s at fs → (most : ℕ) → length s < at + most → fields_from most at (drop at s) ≡ fs
unfolding fields_from
Fields-found (none l) zero h = refl
Fields-found {s} (none {at} l) (suc most) h = let e : length (drop at s) < 3 = simp length-drop (omega arith) in rw (lt-ltb _ _ e)
Fields-found {s} (first {at} x r) zero h = absurd (omega (arith, x.start, x.within))
Fields-found {s} (first {at} {f} {fs} x r) (suc most) h =
    let ih : fields_from most (at + (f.len + 3)) (drop (at + (f.len + 3)) s) ≡ fs = Fields-found r most (omega arith) in
    let y = walk_seen s at f x in
    rw (y.whole, y.len, drop-drop, ih) (λ i. record { tag = y.tag i; start = sym x.start i; len = f.len } ∷ fs)

pub Fields-encoded : {s : List ℕ} {at : ℕ} {fs : List FieldAt} → Fields s at fs → Bytes s → drop at s ≡ encoded_parts (parts_of s fs)
unfolding flat_map
Fields-encoded {s} (none l) b = drop_of_length-le s l
Fields-encoded {s} (first {at} {f} x r) b = field_encoded s at f x b ∙ ap (λ l. encoded f.tag (value_of s f) ++ l) (Fields-encoded r b)

pub walk_by_fields_of : (rows : List (List ℕ)) (s : List ℕ) (fs : List FieldAt) → walk_by rows s ≡ fields fs → fields_of s ≡ fs
walk_by_fields_of rows s fs walks = Fields-found (walk_by_fields rows s fs walks) (length s + 1) (omega arith)

module _ (rows : List (List ℕ)) (s : List ℕ) (fs : List FieldAt) (walks : walk rows s ≡ fields fs) where
  -- A file that walks is the bytes of its fields, field after field.
  pub walk_tiles : Bytes s → s ≡ encoded_parts (parts_of s fs)
  walk_tiles = Fields-encoded (walk_fields rows s fs walks)

  -- The search sees the walk's very fields.
  pub walk_fields_of : fields_of s ≡ fs
  walk_fields_of = Fields-found (walk_fields rows s fs walks) (length s + 1) (omega arith)

  pub walk_first_place : (tag : ℕ) → first_place tag s ≡ first_with tag fs
  walk_first_place tag = ap (first_with tag) walk_fields_of

pub rising_rest : (tag : ℕ) (rows : List (List ℕ)) → tags_above tag rows ≡ true → rising_tags rows ≡ true
rising_rest tag [] e = refl
rising_rest tag (row ∷ rows) e = (both_hold tag (tag_of row) (rising_tags (row ∷ rows)) e).1

row_above : (tag : ℕ) (rows : List (List ℕ)) → tags_above tag rows ≡ true → (k : ℕ) → k < length rows → tag < tag_of (get_or rows k [])
row_above tag [] e k h = absurd (omega arith)
row_above tag (row ∷ rows) e zero h = (both_hold tag (tag_of row) (rising_tags (row ∷ rows)) e).0
row_above tag (row ∷ rows) e (suc k) h =
    let n = both_hold tag (tag_of row) (rising_tags (row ∷ rows)) e in
    omega (arith, n.0, row_above (tag_of row) rows n.1 k (omega arith))

-- the first field with a row's tag is of that row
record FoundIn (row : List ℕ) (fs : List FieldAt) : Type 0 where
  f : FieldAt
  among : Memᴰ f fs
  found : first_with (tag_of row) fs ≡ place_at f.start f.len
  permitted : permitted_by row f.len ≡ true

-- a field of row k must come, and another one where row k is the first, of which n fields have come
Stand-finds : {rows : List (List ℕ)} {n : ℕ} {fs : List FieldAt} → Stand rows n fs → rising_tags rows ≡ true → (k : ℕ) → k < length rows →
    0 < least_of (get_or rows k []) → (k ≡ 0 → n < least_of (get_or rows k [])) → FoundIn (get_or rows k []) fs
unfolding first_with
Stand-finds end r k h o z = absurd (omega arith)
Stand-finds (next_row l x) r zero h o z = absurd (omega (arith, z refl))
Stand-finds (next_row {row} {rows} l x) r (suc k) h o z = Stand-finds x (rising_rest (tag_of row) rows r) k (omega arith) o (λ _. o)
Stand-finds (field {f} t p l x) r zero h o z = record { f = f; among = Memᴰ.head refl; found = rw (eq-eqb _ _ t); permitted = p }
Stand-finds (field {row} {rows} {f} t p l x) r (suc k) h o z =
    let w = Stand-finds x r (suc k) h o (λ e. absurd (omega arith)) in
    let above : tag_of row < tag_of (get_or rows k []) = row_above (tag_of row) rows r k (omega arith) in
    let other : eqb f.tag (tag_of (get_or rows k [])) ≡ false = ne_eqb f.tag (tag_of (get_or rows k [])) (λ e. omega arith) in
    record { f = w.f; among = Memᴰ.tail w.among; found = rw other w.found; permitted = w.permitted }

-- A file that walks by some rows has each field that must be there, and the search finds it.
pub walk_by_finds : (rows : List (List ℕ)) (s : List ℕ) (fs : List FieldAt) → rising_tags rows ≡ true → walk_by rows s ≡ fields fs →
    (k : ℕ) → k < length rows → 1 ≤ least_of (get_or rows k []) → Found (get_or rows k []) s
walk_by_finds rows s fs r e k h o =
    let are = walk_by_fields rows s fs e in
    let w = Stand-finds (walk_by_stands rows s fs e) r k h o (λ _. o) in
    let i = Fields-at are w.f w.among in
    record {
      start = w.f.start;
      len = w.f.len;
      found = ap (first_with (tag_of (get_or rows k []))) (walk_by_fields_of rows s fs e) ∙ w.found;
      permitted = w.permitted;
      within = i.1.within;
    }

-- no row permits a field with this tag: a computed test
abbrev pub none_with : ℕ → List (List ℕ) → Bool
none_with tag [] = true
none_with tag (row ∷ rows) = cond (eqb (tag_of row) tag) (cond (eqb (most_of row) 0) (none_with tag rows) false) (none_with tag rows)

Stand-none_with : {rows : List (List ℕ)} {n : ℕ} {fs : List FieldAt} → Stand rows n fs → (tag : ℕ) → none_with tag rows ≡ true → first_with tag fs ≡ None
unfolding first_with
Stand-none_with end tag e = refl
Stand-none_with (next_row {row} {rows} l x) tag e = Stand-none_with x tag (later (eqb (tag_of row) tag) (eqb (most_of row) 0) e)
  where
    later : (same never : Bool) → cond same (cond never (none_with tag rows) false) (none_with tag rows) ≡ true → none_with tag rows ≡ true
    later true true h = h
    later true false h = absurd (false≢true h)
    later false never h = h
Stand-none_with (field {row} {rows} {n} {f} t p l x) tag e =
    rw (ne_eqb f.tag tag (λ same. permits (eq-eqb (tag_of row) tag (sym t ∙ same)) (ne_eqb (most_of row) 0 (λ z. omega arith)) e)) (Stand-none_with x tag e)
  where
    permits : {same never : Bool} → same ≡ true → never ≡ false → cond same (cond never (none_with tag rows) false) (none_with tag rows) ≡ true → ⊥
    permits {same} {never} a b h = false≢true (sym (rw (a, b)) ∙ h)

-- A file that walks by some rows has no field that none of them permits, and the search finds none.
pub walk_by_finds_none : (rows : List (List ℕ)) (s : List ℕ) (fs : List FieldAt) → walk_by rows s ≡ fields fs → (tag : ℕ) → none_with tag rows ≡ true →
    first_place tag s ≡ None
walk_by_finds_none rows s fs e tag none_has = ap (first_with tag) (walk_by_fields_of rows s fs e) ∙ Stand-none_with (walk_by_stands rows s fs e) tag none_has

above_in : (form tag : ℕ) (rows : List (List ℕ)) → tags_above tag rows ≡ true → tags_above tag (rows_in form rows) ≡ true
above_in form tag [] r = refl
above_in form tag (row ∷ rows) r =
    let h = both_hold tag (tag_of row) (tags_above (tag_of row) rows) r in
    rw (same_in tag_of row refl form, lt-ltb _ _ h.0) (above_in form (tag_of row) rows h.1)

pub rising_in : (form : ℕ) (rows : List (List ℕ)) → rising_tags rows ≡ true → rising_tags (rows_in form rows) ≡ true
rising_in form [] r = refl
rising_in form (row ∷ rows) r = rw (same_in tag_of row refl form) (above_in form (tag_of row) rows r)

module _ (rows : List (List ℕ)) (s : List ℕ) (fs : List FieldAt) (rising : rising_tags rows ≡ true) (k : ℕ) (h : k < length rows)
    (due : 1 ≤ least_of (row_in neither_form (get_or rows k []))) where
  finds_in : (form : ℕ) → walk_by (rows_in form rows) s ≡ fields fs → Found (get_or rows k []) s
  finds_in form e =
      let same : get_or (rows_in form rows) k [] ≡ get_or rows k [] = row_in_lem rows form k ∙ of_both (get_or rows k []) due form in
      let neither : row_in neither_form (get_or rows k []) ≡ get_or rows k [] = of_both (get_or rows k []) due neither_form in
      subst (λ row. Found row s) same
      (walk_by_finds (rows_in form rows) s fs (rising_in form rows rising) e k (omega (arith, length-map rows (row_in form)))
      (subst (λ row. 1 ≤ least_of row) (neither ∙ sym same) due))

  -- A file that walks has each field that must be there in both forms, and the search finds it.
  pub walk_finds_due : walk rows s ≡ fields fs → Found (get_or rows k []) s
  walk_finds_due e = ⊎_elim (finds_in first_form) (finds_in second_form) (walk_by_form rows s fs e)

-- the value that is found for a row
pub found_sized : {row s : List ℕ} → Found row s → Sized row s
found_sized {row} {s} f =
    let long : length (take f.len (drop f.start s)) ≡ f.len = simp (length-take, length-drop) (omega (arith, f.within)) in
    let size : length (field_value (tag_of row) s) ≡ f.len = ap (λ p. length (part_of p s)) f.found ∙ long in
    let start : field_start (tag_of row) s ≡ f.start = ap start_of f.found in
    let p = permitted_length row f.len f.permitted in
    record { lowest = omega arith; highest = omega arith; step = ap (λ n. (n - lowest_of row) % step_of row) size ∙ p.2; within = omega (arith, f.within) }

pub walk_sized : (rows : List (List ℕ)) (s : List ℕ) → rising_tags rows ≡ true → FieldsWalk rows s → (k : ℕ) → k < length rows →
    1 ≤ least_of (row_in neither_form (get_or rows k [])) → Sized (get_or rows k []) s
walk_sized rows s rising (fs, walks) k h due = found_sized (walk_finds_due rows s fs rising k h due walks)

-- a part of bytes is bytes
pub Bytes-part : (place : Option Place) (s : List ℕ) → Bytes s → Bytes (part_of place s)
Bytes-part None s h k = omega arith
Bytes-part (Some place) s h k = Bytes-take place.len (drop place.start s) (Bytes-drop place.start s h) k
