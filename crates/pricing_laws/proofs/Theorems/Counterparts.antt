-- Document 02, E6: every accepted book and request in one-byte form has a counterpart in two-byte form, with the same values and zones.
use Rattle.std.specs.Prelude.{ℕ, zero, suc, ◌+◌, ◌-◌, ◌<◌, ◌≤◌, ◌≡◌, refl, Bool, true, false, cond, length, get_or, take, drop, eqb, Ok, None, Some, Option}
use Rattle.std.proofs.Common.{sym, ap, ap₂, ◌∙◌, subst, inr, ⊎_elim, arith, lit<, lit≤, length-take, length-drop, eq-eqb, eqb-true}
use mathlib.Core.List.Memᴰ
use mathlib.Core.List.{List, [], ◌∷◌, ◌++◌, map, flat_map, Memᴰ}
use Rattle.numbers.specs.BigEndian.{Bytes, bytes_of}
use Rattle.numbers.specs.Check.{check}
use Rattle.numbers.proofs.Theorems.BigEndian.{Bytes-append, Bytes-take, Bytes-drop, bytes_of_bytes, number_at_below}
use Rattle.numbers.proofs.Theorems.Check.{check_below}
use Rattle.field_walk.specs.Walk.{tag_of, lowest_of, highest_of, least_of, most_of, permitted_by, FieldAt, value_of, fields, first_form, second_form, rows_in, walk_by, walk}
use Rattle.tagged.specs.Find.{fields_of, place_at, part_of, first_with, first_place, field_value, fields_with}
use Rattle.tagged.specs.File.{answer_of, fields_part, file_answer}
use Rattle.tagged.specs.declared.find.Place.{Place}
use Rattle.tagged.specs.RisingTags.{rising_tags}
use Rattle.tagged.specs.Encoded.{encoded, encoded_parts, closed}
use Rattle.tagged.specs.WalkEncoded.{Short, places_from, parts_of}
use Rattle.tagged.specs.WalkRelations.{Stand, end, next_row, field, Fields, none, first}
use Rattle.tagged.proofs.Theorems.Impossible.{impossible}
use Rattle.tagged.proofs.Theorems.ClosedFiles.{fields_of_closed, closed_stands}
use Rattle.tagged.proofs.Theorems.File.{stands_means}
use Rattle.tagged.proofs.Theorems.FoundFields.{walk_by_finds, walk_by_fields_of, Bytes-part}
use Rattle.tagged.proofs.Theorems.Walk.{walk_by_form, walk_by_stands, walk_by_fields, permitted_length}
use Rattle.tagged.proofs.Theorems.WalkEncoded.{walk_of_encoded, walk_parts_of_encoded, walk_in_form}
use Rattle.book_zones.specs.BookRows.{book_rows}
use Rattle.book_zones.specs.Zones.{tag_by, zone_tag}
use Rattle.rate_book.specs.Book.{book_of}
use Rattle.rate_book.proofs.Theorems.Book.{accepted_stands}
use Rattle.request.specs.RequestRows.{request_rows}
use Rattle.request.specs.Request.{request_of}
use Rattle.request.specs.RequestSizes.{ZoneBytes}
use Rattle.request.proofs.Theorems.Request.{request_accepted}
use Rattle.request.proofs.Theorems.RequestLimits.{accepted_request_sizes}
use Rattle.pricing_laws.specs.SameValues.{in_two_bytes, zones_in_two_bytes, zone_bytes_by, zone_in_two_bytes, SameBooks, SameRequests, InTwoBytes}

-- ---- tags and values that stand by rows
data PartsStand : List (List ℕ) → ℕ → List (ℕ × List ℕ) → Type 0 where
  no_more : {n : ℕ} → PartsStand [] n []
  past : {row : List ℕ} {rows : List (List ℕ)} {n : ℕ} {parts : List (ℕ × List ℕ)} → least_of row ≤ n → PartsStand rows 0 parts → PartsStand (row ∷ rows) n parts
  one : {row : List ℕ} {rows : List (List ℕ)} {n : ℕ} {part : ℕ × List ℕ} {parts : List (ℕ × List ℕ)} → part.0 ≡ tag_of row → permitted_by row (length part.1) ≡ true →
      n < most_of row → PartsStand (row ∷ rows) (n + 1) parts → PartsStand (row ∷ rows) n (part ∷ parts)

places_stand : {rows : List (List ℕ)} {n : ℕ} {parts : List (ℕ × List ℕ)} → PartsStand rows n parts → (at : ℕ) → Stand rows n (places_from at parts)
unfolding places_from
places_stand no_more at = end
places_stand (past {parts = []} l x) at = next_row l (places_stand x at)
places_stand (past {parts = part ∷ parts} l x) at = next_row l (places_stand x at)
places_stand (one t p l x) at = field t p l (places_stand x _)

-- every tag is a byte, every length two, and every value bytes
abbrev WrittenBytes : List (ℕ × List ℕ) → Type 0
WrittenBytes [] = Unit {0}
WrittenBytes (part ∷ parts) = (part.0 < 256) × (length part.1 < 65536) × Bytes part.1 × WrittenBytes parts

module _ (s : List ℕ) (bytes : Bytes s) where
  long_value : (f : FieldAt) → f.start + f.len ≤ length s → length (value_of s f) ≡ f.len
  long_value f within = simp (length-take, length-drop) (omega arith)

  parts_stand : {rows : List (List ℕ)} {n : ℕ} {at : ℕ} {fs : List FieldAt} → Stand rows n fs → Fields s at fs → PartsStand rows n (parts_of s fs)
  parts_stand end y = no_more
  parts_stand (next_row l x) y = past l (parts_stand x y)
  parts_stand (field {row} {f = f} t p l x) (first y z) = one t (rw (long_value f y.within) p) l (parts_stand x z)

  parts_written : {at : ℕ} {fs : List FieldAt} → Fields s at fs → WrittenBytes (parts_of s fs)
  parts_written (none l) = tt
  parts_written (first {at} {f} y z) =
      let width : f.len < 65536 = omega (arith, y.len, number_at_below s (at + 1) 2 bytes (omega (arith, y.start, y.within))) in
      (rw y.tag (bytes at), rw (long_value f y.within) width, Bytes-take f.len (drop f.start s) (Bytes-drop f.start s bytes), parts_written z)

written_both : (a b : List (ℕ × List ℕ)) → WrittenBytes (a ++ b) → WrittenBytes a × WrittenBytes b
written_both [] b w = (tt, w)
written_both (part ∷ a) b w = let more = written_both a b w.3 in ((w.0, w.1, w.2, more.0), more.1)

written_joined : (a b : List (ℕ × List ℕ)) → WrittenBytes a → WrittenBytes b → WrittenBytes (a ++ b)
written_joined [] b v w = w
written_joined (part ∷ a) b v w = (v.0, v.1, v.2, written_joined a b v.3 w)

one_byte : (byte : ℕ) (bytes : List ℕ) → byte < 256 → Bytes bytes → Bytes (byte ∷ bytes)
one_byte byte bytes low b zero = low
one_byte byte bytes low b (suc k) = b k

written_bytes : (parts : List (ℕ × List ℕ)) → WrittenBytes parts → Bytes (encoded_parts parts)
unfolding flat_map
written_bytes [] w = λ k. omega arith
written_bytes (part ∷ parts) w =
    Bytes-append (encoded part.0 part.1) (encoded_parts parts)
    (one_byte part.0 _ w.0 (Bytes-append (bytes_of 2 (length part.1)) part.1 (bytes_of_bytes 2 (length part.1) w.1) w.2))
    (written_bytes parts w.3)

closed_bytes : (parts : List (ℕ × List ℕ)) → WrittenBytes parts → Bytes (closed parts)
closed_bytes parts w =
    let checked = encoded_parts parts ++ (255 ∷ 0 ∷ 2 ∷ []) in
    Bytes-append checked (bytes_of 2 (check checked)) (Bytes-append (encoded_parts parts) (255 ∷ 0 ∷ 2 ∷ []) (written_bytes parts w) last)
    (bytes_of_bytes 2 (check checked) (omega (arith, check_below 0 checked (omega arith))))
  where
    last : Bytes (255 ∷ 0 ∷ 2 ∷ [])
    last = one_byte 255 (0 ∷ 2 ∷ []) (lit< tt) (one_byte 0 (2 ∷ []) (lit< tt) (one_byte 2 [] (lit< tt) (λ k. omega arith)))

written_short : (at : ℕ) (parts : List (ℕ × List ℕ)) → WrittenBytes parts → Short (places_from at parts)
unfolding places_from
written_short at [] w f i = absurd (Memᴰ.not-nil i)
written_short at (part ∷ parts) w f i = ⊎_elim (λ e. rw e w.1) (written_short (at + (length part.1 + 3)) parts w.3 f) (Memᴰ.cases_cons i)

-- ---- parts of the first rows, and of those after them
record Split (before rows : List (List ℕ)) (n : ℕ) (parts : List (ℕ × List ℕ)) : Type 0 where
  mine : List (ℕ × List ℕ)
  others : List (ℕ × List ℕ)
  are : parts ≡ mine ++ others
  of_first : PartsStand before n mine
  of_last : PartsStand rows 0 others

split : (rows before : List (List ℕ)) {all : List (List ℕ)} {n : ℕ} {parts : List (ℕ × List ℕ)} → all ≡ before ++ rows → (before ≡ [] → n ≡ 0) → PartsStand all n parts →
    Split before rows n parts
split rows [] {n = n} {parts} e z x =
    record { mine = []; others = parts; are = refl; of_first = no_more; of_last = subst (λ (m : ℕ). PartsStand rows m parts) (z refl) (subst (λ (l : List (List ℕ)). PartsStand l n parts) e x) }
split rows (row ∷ before) e z no_more = impossible cc
split rows (row ∷ before) {n = n} e z (past {row = row'} l x) =
    let first_is : row' ≡ row = ap (λ (l : List (List ℕ)). get_or l 0 []) e in
    let s = split rows before (ap (λ (l : List (List ℕ)). drop 1 l) e) (λ e. refl) x in
    record { mine = s.mine; others = s.others; are = s.are; of_first = past (rw first_is at l) s.of_first; of_last = s.of_last }
split rows (row ∷ before) {n = n} e z (one {row = row'} {part = part} t p l x) =
    let first_is : row' ≡ row = ap (λ (l : List (List ℕ)). get_or l 0 []) e in
    let s = split rows (row ∷ before) e (λ e. impossible cc) x in
    record { mine = part ∷ s.mine; others = s.others; are = ap (λ l. part ∷ l) s.are; of_first = one (rw first_is at t) (rw first_is at p) (rw first_is at l) s.of_first; of_last = s.of_last }

join : (rows : List (List ℕ)) {before : List (List ℕ)} {n : ℕ} {mine others : List (ℕ × List ℕ)} → (before ≡ [] → n ≡ 0) → PartsStand before n mine → PartsStand rows 0 others →
    PartsStand (before ++ rows) n (mine ++ others)
join rows {others = others} z no_more y = subst (λ (m : ℕ). PartsStand rows m others) (sym (z refl)) y
join rows z (past l x) y = past l (join rows (λ e. refl) x y)
join rows z (one t p l x) y = one t p l (join rows (λ e. impossible cc) x y)

-- ---- values by tag
value_in : ℕ → List (ℕ × List ℕ) → List ℕ
value_in tag [] = []
value_in tag (part ∷ parts) = cond (eqb part.0 tag) part.1 (value_in tag parts)

values_in : ℕ → List (ℕ × List ℕ) → List (List ℕ)
values_in tag [] = []
values_in tag (part ∷ parts) = cond (eqb part.0 tag) (part.1 ∷ values_in tag parts) (values_in tag parts)

-- no row has this tag
abbrev none_of : ℕ → List (List ℕ) → Bool
none_of tag [] = true
none_of tag (row ∷ rows) = cond (eqb (tag_of row) tag) false (none_of tag rows)

none_of_both : (row : List ℕ) (rows : List (List ℕ)) (tag : ℕ) → none_of tag (row ∷ rows) ≡ true → (eqb (tag_of row) tag ≡ false) × (none_of tag rows ≡ true)
none_of_both row rows tag = by (eqb (tag_of row) tag)
  where
    by : (b : Bool) → cond b false (none_of tag rows) ≡ true → (b ≡ false) × (none_of tag rows ≡ true)
    by true e = impossible cc
    by false e = (refl, e)

no_value : {rows : List (List ℕ)} {n : ℕ} {parts : List (ℕ × List ℕ)} → PartsStand rows n parts → (tag : ℕ) → none_of tag rows ≡ true →
    (value_in tag parts ≡ []) × (values_in tag parts ≡ [])
unfolding value_in values_in
no_value no_more tag e = (refl, refl)
no_value (past {row} {rows} l x) tag e = no_value x tag (none_of_both row rows tag e).1
no_value (one {row} {rows} {part = part} t p l x) tag e =
    let other : eqb part.0 tag ≡ false = rw t (none_of_both row rows tag e).0 in
    rw other (no_value x tag e)

value_append : (tag : ℕ) (a b c : List (ℕ × List ℕ)) → value_in tag b ≡ value_in tag c → value_in tag (a ++ b) ≡ value_in tag (a ++ c)
unfolding value_in
value_append tag [] b c e = e
value_append tag (part ∷ a) b c e = ap (λ v. cond (eqb part.0 tag) part.1 v) (value_append tag a b c e)

value_alone : (tag : ℕ) (a b : List (ℕ × List ℕ)) → value_in tag b ≡ [] → value_in tag (a ++ b) ≡ value_in tag a
unfolding value_in
value_alone tag [] b e = e
value_alone tag (part ∷ a) b e = ap (λ v. cond (eqb part.0 tag) part.1 v) (value_alone tag a b e)

value_behind : {rows : List (List ℕ)} {n : ℕ} {a : List (ℕ × List ℕ)} → PartsStand rows n a → (tag : ℕ) → none_of tag rows ≡ true → (b : List (ℕ × List ℕ)) →
    (value_in tag (a ++ b) ≡ value_in tag b) × (values_in tag (a ++ b) ≡ values_in tag b)
unfolding value_in values_in
value_behind no_more tag e b = (refl, refl)
value_behind (past {row} {rows} l x) tag e b = value_behind x tag (none_of_both row rows tag e).1 b
value_behind (one {row} {rows} {part = part} t p l x) tag e b =
    let other : eqb part.0 tag ≡ false = rw t (none_of_both row rows tag e).0 in
    rw other (value_behind x tag e b)

-- the finder's value is the one by tag
module _ (s : List ℕ) where
  found_value : (tag : ℕ) (fs : List FieldAt) → part_of (first_with tag fs) s ≡ value_in tag (parts_of s fs)
  unfolding first_with value_in
  found_value tag [] = refl
  found_value tag (f ∷ fs) = by (eqb f.tag tag) (found_value tag fs)
    where
      by : (b : Bool) → part_of (first_with tag fs) s ≡ value_in tag (parts_of s fs) →
          part_of (cond b (place_at f.start f.len) (first_with tag fs)) s ≡ cond b (value_of s f) (value_in tag (parts_of s fs))
      by true e = refl
      by false e = e

  found_none : (tag : ℕ) (fs : List FieldAt) → first_with tag fs ≡ None → values_in tag (parts_of s fs) ≡ []
  unfolding first_with values_in
  found_none tag [] e = refl
  found_none tag (f ∷ fs) e = by (eqb f.tag tag) (found_none tag fs) e
    where
      by : (b : Bool) → (first_with tag fs ≡ None → values_in tag (parts_of s fs) ≡ []) → cond b (place_at f.start f.len) (first_with tag fs) ≡ None →
          cond b (value_of s f ∷ values_in tag (parts_of s fs)) (values_in tag (parts_of s fs)) ≡ []
      by true later e = impossible cc
      by false later e = later e

  -- the values of one tag, each of so many bytes
  found_values : (tag width : ℕ) (g : List ℕ → List ℕ) (fs : List FieldAt) → ((f : FieldAt) → Memᴰ f fs → f.tag ≡ tag → f.len ≡ width) →
      map (λ at. g (take width (drop at s))) (map (λ f. f.start) (fields_with tag fs)) ≡ map g (values_in tag (parts_of s fs))
  unfolding fields_with values_in
  found_values tag width g [] long = refl
  found_values tag width g (f ∷ fs) long = by (eqb f.tag tag) refl (found_values tag width g fs (λ h i. long h (Memᴰ.tail i)))
    where
      by : (b : Bool) → eqb f.tag tag ≡ b → map (λ at. g (take width (drop at s))) (map (λ f. f.start) (fields_with tag fs)) ≡ map g (values_in tag (parts_of s fs)) →
          map (λ at. g (take width (drop at s))) (map (λ f. f.start) (cond b (f ∷ fields_with tag fs) (fields_with tag fs)))
          ≡ map g (cond b (value_of s f ∷ values_in tag (parts_of s fs)) (values_in tag (parts_of s fs)))
      by true t e = ap₂ ◌∷◌ (ap (λ w. g (take w (drop f.start s))) (sym (long f (Memᴰ.head refl) (eqb-true _ _ t)))) e
      by false t e = e

-- the length of a tag's fields
abbrev fixed : ℕ → ℕ → List (List ℕ) → Bool
fixed tag width [] = true
fixed tag width (row ∷ rows) = cond (eqb (tag_of row) tag) (cond (eqb (lowest_of row) width) (cond (eqb (highest_of row) width) (fixed tag width rows) false) false) (fixed tag width rows)

fixed_len : {rows : List (List ℕ)} {n : ℕ} {fs : List FieldAt} → Stand rows n fs → (tag width : ℕ) → fixed tag width rows ≡ true →
    (f : FieldAt) → Memᴰ f fs → f.tag ≡ tag → f.len ≡ width
fixed_len end tag width e f i same = absurd (Memᴰ.not-nil i)
fixed_len (next_row {row} {rows} l x) tag width e f i same = fixed_len x tag width (later (eqb (tag_of row) tag) (eqb (lowest_of row) width) (eqb (highest_of row) width) e) f i same
  where
    later : (a b c : Bool) → cond a (cond b (cond c (fixed tag width rows) false) false) (fixed tag width rows) ≡ true → fixed tag width rows ≡ true
    later true true true e = e
    later true true false e = impossible cc
    later true false c e = impossible cc
    later false b c e = e
fixed_len (field {row} {rows} {f = g} t p l x) tag width e f i same =
    ⊎_elim
    (λ here.
    let is_row : eqb (tag_of row) tag ≡ true = eq-eqb _ _ (sym t ∙ ap (λ (h : FieldAt). h.tag) (sym here) ∙ same) in
    let limits = at_row (eqb (tag_of row) tag) (eqb (lowest_of row) width) refl (eqb (highest_of row) width) refl is_row e in
    let permitted = permitted_length row g.len p in
    ap (λ (h : FieldAt). h.len) here ∙ omega (arith, limits.0, limits.1, permitted.0, permitted.1))
    (λ later. fixed_len x tag width e f later same)
    (Memᴰ.cases_cons i)
  where
    at_row : (a b : Bool) → eqb (lowest_of row) width ≡ b → (c : Bool) → eqb (highest_of row) width ≡ c → a ≡ true →
        cond a (cond b (cond c (fixed tag width rows) false) false) (fixed tag width rows) ≡ true → (lowest_of row ≡ width) × (highest_of row ≡ width)
    at_row true true low true high a e = (eqb-true _ _ low, eqb-true _ _ high)
    at_row true true low false high a e = impossible cc
    at_row true false low c high a e = impossible cc
    at_row false b low c high a e = impossible cc

-- ---- a file made of parts
module _ (rows : List (List ℕ)) (number : ℕ) (parts : List (ℕ × List ℕ)) (rising : rising_tags (rows_in second_form rows) ≡ true)
    (stand : PartsStand (rows_in second_form rows) 0 parts) (written : WrittenBytes parts) where
  made_walks : walk_by (rows_in second_form rows) (encoded_parts parts) ≡ fields (places_from 0 parts)
  made_walks = walk_of_encoded (rows_in second_form rows) parts rising (places_stand stand 0) (written_short 0 parts written)

  made_stands : file_answer rows number (closed parts) ≡ Ok tt
  made_stands = closed_stands parts (walk rows) number (places_from 0 parts) (walk_in_form rows (encoded_parts parts) (places_from 0 parts) (inr made_walks))

  made_value : (tag : ℕ) → field_value tag (encoded_parts parts) ≡ value_in tag parts
  made_value tag =
      ap (λ fs. part_of (first_with tag fs) (encoded_parts parts)) (walk_by_fields_of (rows_in second_form rows) (encoded_parts parts) (places_from 0 parts) made_walks)
      ∙ found_value (encoded_parts parts) tag (places_from 0 parts) ∙ ap (value_in tag) (walk_parts_of_encoded parts)

  made_none : (tag : ℕ) → first_place tag (encoded_parts parts) ≡ None → values_in tag parts ≡ []
  made_none tag e =
      sym (ap (values_in tag) (walk_parts_of_encoded parts))
      ∙ found_none (encoded_parts parts) tag (places_from 0 parts) (sym (ap (first_with tag) (walk_by_fields_of (rows_in second_form rows) (encoded_parts parts) (places_from 0 parts) made_walks)) ∙ e)

  made_values : (tag width : ℕ) → fixed tag width (rows_in second_form rows) ≡ true →
      map (λ at. take width (drop at (encoded_parts parts))) (map (λ f. f.start) (fields_with tag (fields_of (encoded_parts parts)))) ≡ map (λ v. v) (values_in tag parts)
  made_values tag width e =
      ap (λ fs. map (λ at. take width (drop at (encoded_parts parts))) (map (λ f. f.start) (fields_with tag fs))) (walk_by_fields_of (rows_in second_form rows) (encoded_parts parts) (places_from 0 parts) made_walks)
      ∙ found_values (encoded_parts parts) tag width (λ v. v) (places_from 0 parts) (fixed_len (places_stand stand 0) tag width e)
      ∙ ap (λ l. map (λ v. v) (values_in tag l)) (walk_parts_of_encoded parts)

-- ---- a book
nowhere_at : {start len : ℕ} → None ≡ place_at start len → ⊥
nowhere_at e = impossible cc

-- without a field 09 it walks by its first form
book_narrow : (s : List ℕ) (fs : List FieldAt) → first_place 9 s ≡ None → walk book_rows s ≡ fields fs → walk_by (rows_in first_form book_rows) s ≡ fields fs
book_narrow s fs nowhere walks =
    ⊎_elim (λ e. e)
    (λ e. absurd (nowhere_at (sym nowhere ∙ (walk_by_finds (rows_in second_form book_rows) s fs refl e 8 (lit< tt) (lit≤ tt)).found)))
    (walk_by_form book_rows s fs walks)

widened : ℕ × List ℕ → ℕ × List ℕ
widened part = (9, 0 ∷ part.1)

zone_length : (v : List ℕ) → permitted_by (8 ∷ 21 ∷ 21 ∷ 1 ∷ 1 ∷ 8 ∷ 1 ∷ []) (length v) ≡ true → length v ≡ 21
zone_length v p = let l = permitted_length (8 ∷ 21 ∷ 21 ∷ 1 ∷ 1 ∷ 8 ∷ 1 ∷ []) (length v) p in omega (arith, l.0, l.1)

nothing_of : {row : List ℕ} {n : ℕ} {parts : List (ℕ × List ℕ)} → most_of row ≡ 0 → PartsStand (row ∷ []) n parts → parts ≡ []
nothing_of e (past l no_more) = refl
nothing_of e (one t p l x) = absurd (omega arith)

zones_widened : {n : ℕ} {parts : List (ℕ × List ℕ)} → PartsStand (drop 7 (rows_in first_form book_rows)) n parts →
    PartsStand (drop 8 (rows_in second_form book_rows)) n (map widened parts)
    × (map (λ v. 0 ∷ v) (values_in 8 parts) ≡ map (λ v. v) (values_in 9 (map widened parts)))
    × (WrittenBytes parts → WrittenBytes (map widened parts))
unfolding widened values_in
zones_widened x = by x refl
  where
    by : {all : List (List ℕ)} {n : ℕ} {parts : List (ℕ × List ℕ)} → PartsStand all n parts → all ≡ drop 7 (rows_in first_form book_rows) →
        PartsStand (drop 8 (rows_in second_form book_rows)) n (map widened parts)
        × (map (λ v. 0 ∷ v) (values_in 8 parts) ≡ map (λ v. v) (values_in 9 (map widened parts)))
        × (WrittenBytes parts → WrittenBytes (map widened parts))
    by no_more e = impossible cc
    by (past {row} {rows} {n} {parts} l x) e =
        let first_is : row ≡ 8 ∷ 21 ∷ 21 ∷ 1 ∷ 1 ∷ 8 ∷ 1 ∷ [] = ap (λ (rows : List (List ℕ)). get_or rows 0 []) e in
        let none_is : parts ≡ [] = nothing_of refl (subst (λ (rows : List (List ℕ)). PartsStand rows 0 parts) (ap (λ (rows : List (List ℕ)). drop 1 rows) e) x) in
        rw none_is (past (rw first_is at l) no_more, refl, λ w. tt)
    by (one {row} {rows} {n} {part} {parts} t p l x) e =
        let first_is : row ≡ 8 ∷ 21 ∷ 21 ∷ 1 ∷ 1 ∷ 8 ∷ 1 ∷ [] = ap (λ (rows : List (List ℕ)). get_or rows 0 []) e in
        let long : length part.1 ≡ 21 = zone_length part.1 (rw first_is at p) in
        let tag : eqb part.0 8 ≡ true = eq-eqb _ _ (rw first_is at t) in
        let more = by x e in (
          one refl (rw long refl) (rw first_is at l) more.0,
          rw tag (ap (λ l. (0 ∷ part.1) ∷ l) more.1),
          λ w. (lit< tt, rw long (lit< tt), one_byte 0 part.1 (lit< tt) w.2, more.2 w.3),
        )

some_zone : {parts : List (ℕ × List ℕ)} → PartsStand (drop 8 (rows_in second_form book_rows)) 0 parts → values_in 9 parts ≡ [] → ⊥
unfolding values_in
some_zone x = by x refl refl
  where
    by : {all : List (List ℕ)} {n : ℕ} {parts : List (ℕ × List ℕ)} → PartsStand all n parts → all ≡ drop 8 (rows_in second_form book_rows) → n ≡ 0 → values_in 9 parts ≡ [] → ⊥
    by no_more e z nothing = impossible cc
    by (past {row} l x) e z nothing =
        let first_is : row ≡ 9 ∷ 22 ∷ 22 ∷ 1 ∷ 1 ∷ 8 ∷ 2 ∷ [] = ap (λ (rows : List (List ℕ)). get_or rows 0 []) e in
        let least : 1 ≤ 0 = rw (first_is, z) at l in
        omega arith
    by (one {row} {part = part} t p l x) e z nothing =
        let first_is : row ≡ 9 ∷ 22 ∷ 22 ∷ 1 ∷ 1 ∷ 8 ∷ 2 ∷ [] = ap (λ (rows : List (List ℕ)). get_or rows 0 []) e in
        let tag : eqb part.0 9 ≡ true = eq-eqb _ _ (rw first_is at t) in
        let some = rw tag at nothing in
        impossible cc

zones_by : ℕ → List ℕ → List (List ℕ)
zones_by tag s = map (λ at. in_two_bytes (tag - 7) (take (tag - 7 + 20) (drop at s))) (map (λ f. f.start) (fields_with tag (fields_of s)))

wide_tag : (s : List ℕ) → (first_place 9 s ≡ None → ⊥) → zone_tag s ≡ 9
wide_tag s found = by (first_place 9 s) found
  where
    by : (place : Option Place) → (place ≡ None → ⊥) → tag_by place ≡ 9
    by None found = absurd (found refl)
    by (Some place) found = refl

module _ (s : List ℕ) (fs : List FieldAt) (bytes : Bytes s) (nowhere : first_place 9 s ≡ None) (narrow : walk_by (rows_in first_form book_rows) s ≡ fields fs) where
  book_stand : Fields s 0 fs
  book_stand = walk_by_fields (rows_in first_form book_rows) s fs narrow

  book_split : Split (take 7 (rows_in first_form book_rows)) (drop 7 (rows_in first_form book_rows)) 0 (parts_of s fs)
  book_split =
      split (drop 7 (rows_in first_form book_rows)) (take 7 (rows_in first_form book_rows)) refl (λ e. impossible cc)
      (parts_stand s bytes (walk_by_stands (rows_in first_form book_rows) s fs narrow) book_stand)

  abbrev wide_zones : List (ℕ × List ℕ)
  wide_zones = map widened book_split.others

  abbrev wide_parts : List (ℕ × List ℕ)
  wide_parts = book_split.mine ++ wide_zones

  wide_stand : PartsStand (rows_in second_form book_rows) 0 wide_parts
  wide_stand = join (drop 7 (rows_in second_form book_rows)) (λ e. impossible cc) book_split.of_first (past (lit≤ tt) (zones_widened book_split.of_last).0)

  wide_written : WrittenBytes wide_parts
  wide_written =
      let both = written_both book_split.mine book_split.others (subst WrittenBytes book_split.are (parts_written s bytes book_stand)) in
      written_joined book_split.mine wide_zones both.0 ((zones_widened book_split.of_last).2 both.1)

  wide_found : first_place 9 (encoded_parts wide_parts) ≡ None → ⊥
  wide_found e =
      some_zone (zones_widened book_split.of_last).0
      (sym (value_behind book_split.of_first 9 refl wide_zones).1 ∙ made_none book_rows 1 wide_parts refl wide_stand wide_written 9 e)

  same_value : (tag : ℕ) → none_of tag (drop 7 (rows_in first_form book_rows)) ≡ true → none_of tag (drop 8 (rows_in second_form book_rows)) ≡ true →
      field_value tag s ≡ field_value tag (encoded_parts wide_parts)
  same_value tag a b =
      ap (λ fs. part_of (first_with tag fs) s) (walk_by_fields_of (rows_in first_form book_rows) s fs narrow)
      ∙ found_value s tag fs ∙ ap (value_in tag) book_split.are
      ∙ value_alone tag book_split.mine book_split.others (no_value book_split.of_last tag a).0
      ∙ sym (value_alone tag book_split.mine wide_zones (no_value (zones_widened book_split.of_last).0 tag b).0)
      ∙ sym (made_value book_rows 1 wide_parts refl wide_stand wide_written tag)

  same_zones : zones_in_two_bytes s ≡ zones_in_two_bytes (encoded_parts wide_parts)
  unfolding zones_by
  same_zones =
      ap (λ tag. zones_by tag s) (ap tag_by nowhere)
      ∙ ap (λ fs. map (λ at. 0 ∷ take 21 (drop at s)) (map (λ f. f.start) (fields_with 8 fs))) (walk_by_fields_of (rows_in first_form book_rows) s fs narrow)
      ∙ found_values s 8 21 (λ v. 0 ∷ v) fs (fixed_len (walk_by_stands (rows_in first_form book_rows) s fs narrow) 8 21 refl)
      ∙ ap (λ parts. map (λ v. 0 ∷ v) (values_in 8 parts)) book_split.are
      ∙ ap (map (λ v. 0 ∷ v)) (value_behind book_split.of_first 8 refl book_split.others).1
      ∙ (zones_widened book_split.of_last).1
      ∙ ap (map (λ v. v)) (sym (value_behind book_split.of_first 9 refl wide_zones).1)
      ∙ sym (made_values book_rows 1 wide_parts refl wide_stand wide_written 9 22 refl)
      ∙ sym (ap (λ tag. zones_by tag (encoded_parts wide_parts)) (wide_tag (encoded_parts wide_parts) wide_found))

  same_book : SameBooks s (encoded_parts wide_parts)
  same_book =
      record {
        letters = same_value 1 refl refl;
        rate = same_value 2 refl refl;
        figures = same_value 3 refl refl;
        distribution = same_value 4 refl refl;
        transmission = same_value 5 refl refl;
        terms = same_value 6 refl refl;
        charging = same_value 7 refl refl;
        zones = same_zones;
      }

  wide_book : (book : List ℕ) → fields_part book ≡ s → InTwoBytes book_rows 1 9 SameBooks book
  wide_book book e =
      let part_is : fields_part (closed wide_parts) ≡ encoded_parts wide_parts = fields_of_closed wide_parts in
      record {
        other = closed wide_parts;
        bytes = closed_bytes wide_parts wide_written;
        stands = made_stands book_rows 1 wide_parts refl wide_stand wide_written;
        wide = λ none. wide_found (subst (λ l. first_place 9 l ≡ None) part_is none);
        same = rw (e, part_is) same_book;
      }

pub book_in_two_bytes : (book : List ℕ) → Bytes book → answer_of (book_of 1 book) ≡ Ok tt → first_place 9 (fields_part book) ≡ None →
    InTwoBytes book_rows 1 9 SameBooks book
book_in_two_bytes book bytes accepted nowhere =
    let s = fields_part book in
    let file = stands_means book_rows 1 book (accepted_stands 1 book accepted) in
    wide_book s file.field_list (Bytes-take (length book - 5) book bytes) nowhere (book_narrow s file.field_list nowhere file.walks) book refl

-- ---- a request

-- without a field 0D it walks by its first form
request_narrow : (s : List ℕ) (fs : List FieldAt) → first_place 13 s ≡ None → walk request_rows s ≡ fields fs → walk_by (rows_in first_form request_rows) s ≡ fields fs
request_narrow s fs nowhere walks =
    ⊎_elim (λ e. e)
    (λ e. absurd (nowhere_at (sym nowhere ∙ (walk_by_finds (rows_in second_form request_rows) s fs refl e 12 (lit< tt) (lit≤ tt)).found)))
    (walk_by_form request_rows s fs walks)

module _ (s : List ℕ) (fs : List FieldAt) (bytes : Bytes s) (nowhere : first_place 13 s ≡ None) (narrow : walk_by (rows_in first_form request_rows) s ≡ fields fs)
    (long : length (field_value 4 s) ≡ 1) where
  request_stand : Fields s 0 fs
  request_stand = walk_by_fields (rows_in first_form request_rows) s fs narrow

  before_zone : Split (take 3 (rows_in first_form request_rows)) (drop 3 (rows_in first_form request_rows)) 0 (parts_of s fs)
  before_zone =
      split (drop 3 (rows_in first_form request_rows)) (take 3 (rows_in first_form request_rows)) refl (λ e. impossible cc)
      (parts_stand s bytes (walk_by_stands (rows_in first_form request_rows) s fs narrow) request_stand)

  at_zone : Split (take 1 (drop 3 (rows_in first_form request_rows))) (drop 4 (rows_in first_form request_rows)) 0 before_zone.others
  at_zone = split (drop 4 (rows_in first_form request_rows)) (take 1 (drop 3 (rows_in first_form request_rows))) refl (λ e. impossible cc) before_zone.of_last

  after_zone : Split (take 8 (drop 4 (rows_in first_form request_rows))) (drop 12 (rows_in first_form request_rows)) 0 at_zone.others
  after_zone = split (drop 12 (rows_in first_form request_rows)) (take 8 (drop 4 (rows_in first_form request_rows))) refl (λ e. impossible cc) at_zone.of_last

  abbrev wide_zone : List (ℕ × List ℕ)
  wide_zone = (13, 0 ∷ field_value 4 s) ∷ []

  abbrev wide_request_parts : List (ℕ × List ℕ)
  wide_request_parts = before_zone.mine ++ (after_zone.mine ++ wide_zone)

  wide_zone_stands : PartsStand (drop 12 (rows_in second_form request_rows)) 0 wide_zone
  wide_zone_stands = one refl (rw long refl) (lit< tt) (past (lit≤ tt) no_more)

  wide_request_stand : PartsStand (rows_in second_form request_rows) 0 wide_request_parts
  wide_request_stand =
      join (drop 3 (rows_in second_form request_rows)) (λ e. impossible cc) before_zone.of_first
      (past (lit≤ tt) (join (drop 12 (rows_in second_form request_rows)) (λ e. impossible cc) after_zone.of_first wide_zone_stands))

  wide_request_written : WrittenBytes wide_request_parts
  wide_request_written =
      let first_both = written_both before_zone.mine before_zone.others (subst WrittenBytes before_zone.are (parts_written s bytes request_stand)) in
      let second_both = written_both at_zone.mine at_zone.others (subst WrittenBytes at_zone.are first_both.1) in
      let third_both = written_both after_zone.mine after_zone.others (subst WrittenBytes after_zone.are second_both.1) in
      written_joined before_zone.mine (after_zone.mine ++ wide_zone) first_both.0
      (written_joined after_zone.mine wide_zone third_both.0 (lit< tt, rw long (lit< tt), one_byte 0 (field_value 4 s) (lit< tt) (Bytes-part (first_place 4 s) s bytes), tt))

  made_request_value : (tag : ℕ) → field_value tag (encoded_parts wide_request_parts) ≡ value_in tag wide_request_parts
  made_request_value tag = made_value request_rows 2 wide_request_parts refl wide_request_stand wide_request_written tag

  found_zone : field_value 13 (encoded_parts wide_request_parts) ≡ 0 ∷ field_value 4 s
  unfolding value_in
  found_zone =
      made_request_value 13 ∙ (value_behind before_zone.of_first 13 refl (after_zone.mine ++ wide_zone)).0 ∙ (value_behind after_zone.of_first 13 refl wide_zone).0

  zone_is_found : first_place 13 (encoded_parts wide_request_parts) ≡ None → ⊥
  unfolding values_in
  zone_is_found e =
      let none = sym ((value_behind before_zone.of_first 13 refl (after_zone.mine ++ wide_zone)).1 ∙ (value_behind after_zone.of_first 13 refl wide_zone).1)
      ∙ made_none request_rows 2 wide_request_parts refl wide_request_stand wide_request_written 13 e in
      impossible cc

  same_request_value : (tag : ℕ) → none_of tag (take 1 (drop 3 (rows_in first_form request_rows))) ≡ true → none_of tag (drop 12 (rows_in first_form request_rows)) ≡ true →
      none_of tag (drop 12 (rows_in second_form request_rows)) ≡ true → field_value tag s ≡ field_value tag (encoded_parts wide_request_parts)
  same_request_value tag a b c =
      ap (λ fs. part_of (first_with tag fs) s) (walk_by_fields_of (rows_in first_form request_rows) s fs narrow)
      ∙ found_value s tag fs ∙ ap (value_in tag) before_zone.are
      ∙ value_append tag before_zone.mine before_zone.others (after_zone.mine ++ wide_zone)
      (ap (value_in tag) at_zone.are ∙ (value_behind at_zone.of_first tag a at_zone.others).0 ∙ ap (value_in tag) after_zone.are
      ∙ value_alone tag after_zone.mine after_zone.others (no_value after_zone.of_last tag b).0
      ∙ sym (value_alone tag after_zone.mine wide_zone (no_value wide_zone_stands tag c).0))
      ∙ sym (made_request_value tag)

  same_zone : zone_in_two_bytes s ≡ zone_in_two_bytes (encoded_parts wide_request_parts)
  same_zone = ap (λ place. zone_bytes_by place s) nowhere ∙ by (first_place 13 (encoded_parts wide_request_parts)) zone_is_found
    where
      by : (place : Option Place) → (place ≡ None → ⊥) → 0 ∷ take 1 (field_value 4 s) ≡ zone_bytes_by place (encoded_parts wide_request_parts)
      by None found = absurd (found refl)
      by (Some place) found = sym (ap (take 2) found_zone)

  same_request : SameRequests s (encoded_parts wide_request_parts)
  same_request =
      record {
        letters = same_request_value 1 refl refl refl;
        person = same_request_value 2 refl refl refl;
        class = same_request_value 3 refl refl refl;
        amounts = same_request_value 5 refl refl refl;
        tiers = same_request_value 6 refl refl refl;
        added = same_request_value 7 refl refl refl;
        revenues = same_request_value 8 refl refl refl;
        part_year = same_request_value 9 refl refl refl;
        distribution = same_request_value 10 refl refl refl;
        transmission = same_request_value 11 refl refl refl;
        connection = same_request_value 12 refl refl refl;
        zone = same_zone;
      }

  wide_request : (request : List ℕ) → fields_part request ≡ s → InTwoBytes request_rows 2 13 SameRequests request
  wide_request request e =
      let part_is : fields_part (closed wide_request_parts) ≡ encoded_parts wide_request_parts = fields_of_closed wide_request_parts in
      record {
        other = closed wide_request_parts;
        bytes = closed_bytes wide_request_parts wide_request_written;
        stands = made_stands request_rows 2 wide_request_parts refl wide_request_stand wide_request_written;
        wide = λ none. zone_is_found (subst (λ l. first_place 13 l ≡ None) part_is none);
        same = rw (e, part_is) same_request;
      }

pub request_in_two_bytes : (request : List ℕ) → Bytes request → answer_of (request_of 2 request) ≡ Ok tt → first_place 13 (fields_part request) ≡ None →
    InTwoBytes request_rows 2 13 SameRequests request
request_in_two_bytes request bytes accepted nowhere =
    let s = fields_part request in
    let file = stands_means request_rows 2 request (request_accepted 2 request accepted).stands in
    let long : length (field_value 4 s) ≡ 1 = subst (λ place. ZoneBytes place s) nowhere (accepted_request_sizes 2 request accepted).zone in
    wide_request s file.field_list (Bytes-take (length request - 5) request bytes) nowhere (request_narrow s file.field_list nowhere file.walks) long request refl
