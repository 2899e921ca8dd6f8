-- A file that stands and then has another value of the same length in one field, its check made anew, stands too, whatever its rows; every field is
-- found where it was, and every other one with the value that it had.
use Rattle.std.specs.Prelude.{ℕ, ◌+◌, ◌-◌, ◌<◌, ◌≤◌, ◌≡◌, ◌⊎◌, true, get_or, take, Ok}
use Rattle.std.proofs.Math.Path.{refl, sym, ap}
use Rattle.std.proofs.Common.{◌∙◌, inl, inr, length-append, length-take, length-drop, get_or-take, drop_at, take-add, length-take-le, eqb-true, ne_eqb}
use mathlib.Core.List.{List, [], ◌∷◌, ◌++◌, append_assoc}
use Rattle.std.proofs.Math.Logic.{⊎_elim}
use Rattle.std.proofs.Math.Bool.{false}
use mathlib.Mathlib.Data.Bool.Basic.{dichotomy}
use native.Mathlib.Omega.{arith}
use Rattle.std.proofs.Math.ListN.{length, drop, get_or-append}
use Rattle.std.proofs.Math.Seq.{take_at, take-take, drop-drop}
use Rattle.std.proofs.lemmas.List.{take-append-le, drop-append-le}
use Rattle.std.proofs.Math.Dec.{eqb}
use Rattle.numbers.specs.BigEndian.{Bytes, number, bytes_of}
use Rattle.numbers.specs.Written.{written}
use Rattle.numbers.proofs.Theorems.BigEndian.{Bytes-append, Bytes-take, Bytes-drop, bytes_of_bytes, length_bytes_of, length_written, drop_written, number_at_one}
use Rattle.numbers.specs.Check.{check}
use Rattle.numbers.proofs.Theorems.Check.{check_below}
use Rattle.field_walk.specs.Walk.{FieldAt, fields, first_form, second_form, rows_in, walk}
use Rattle.tagged.specs.DiffersInField.{DiffersInField}
use Rattle.tagged.specs.Encoded.{encoded_parts, closed}
use Rattle.tagged.specs.WalkEncoded.{parts_of}
use Rattle.tagged.specs.File.{fields_part, file_answer}
use Rattle.tagged.specs.FileStands.{FileStands}
use Rattle.tagged.specs.declared.find.Place.{Place}
use Rattle.tagged.specs.Find.{place_at, first_with, first_place, part_of, start_of, field_start, field_value}
use Rattle.tagged.specs.RisingTags.{rising_tags}
use Rattle.tagged.specs.WalkRelations.{StandsAt, Fields, none, first}
use Rattle.tagged.proofs.Theorems.ClosedFiles.{fields_of_closed, closed_stands, stands_closed}
use Rattle.tagged.proofs.Theorems.FoundFields.{walk_tiles, walk_first_place, rising_in}
use Rattle.tagged.proofs.Theorems.Impossible.{impossible}
use Rattle.tagged.proofs.Theorems.Walk.{by_test, walk_stands, walk_fields}
use Rattle.tagged.proofs.Theorems.WalkEncoded.{walk_of_fields, walk_in_form}

-- "It is h over all bytes of the file but the last two": these two made anew
abbrev checked_anew : List ℕ → List ℕ
checked_anew file = let checked = take (length file - 2) file in checked ++ bytes_of 2 (check checked)

-- another value of the same length in the field with this tag
abbrev pub with_field : ℕ → List ℕ → List ℕ → List ℕ
with_field tag value file = checked_anew (written file (field_start tag (fields_part file)) value)

Bytes-written : (s : List ℕ) (at : ℕ) (v : List ℕ) → Bytes s → Bytes v → Bytes (written s at v)
unfolding written
Bytes-written s at v bytes spelt = Bytes-append (take at s) _ (Bytes-take at s bytes) (Bytes-append v _ spelt (Bytes-drop (at + length v) s bytes))

-- the bytes of a part, as what the file before its end ends with
part_of_front : (s : List ℕ) (at n : ℕ) → at ≤ length s → take n (drop at s) ≡ drop at (take (at + n) s)
part_of_front s at n h = rw take-add (sym (drop_at (take at s) (take n (drop at s)) at (length-take-le at s h)))

-- the bytes s with v in place of those from `start` on
module _ (s v : List ℕ) (start : ℕ) (within : start + length v ≤ length s) where
  -- a part is the same in both
  Kept : ℕ → ℕ → Type 0
  Kept at n = take n (drop at (written s start v)) ≡ take n (drop at s)

  same_size : length (written s start v) ≡ length s
  same_size = length_written s start v within

  front : take start (written s start v) ≡ take start s
  unfolding written
  front = take_at (take start s) _ start (length-take-le start s (omega arith))

  kept_before : (at n : ℕ) → at + n ≤ start → Kept at n
  unfolding Kept
  kept_before at n h =
      part_of_front (written s start v) at n (omega (arith, same_size))
      ∙ ap (drop at) (sym (take-take (at + n) start (written s start v) h) ∙ ap (take (at + n)) front ∙ take-take (at + n) start s h)
      ∙ sym (part_of_front s at n (omega arith))

  kept_after : (at n : ℕ) → start + length v ≤ at → Kept at n
  unfolding Kept
  kept_after at n h =
      let end = start + length v in
      let on : end + (at - end) ≡ at = omega arith in
      let from : (x : List ℕ) → drop (at - end) (drop end x) ≡ drop at x = λ x. drop-drop (at - end) end x ∙ ap (λ k. drop k x) on in
      ap (take n) (sym (from (written s start v)) ∙ ap (drop (at - end)) (drop_written s start v (omega arith)) ∙ from s)

  value_there : take (length v) (drop start (written s start v)) ≡ v
  unfolding written
  value_there =
      ap (take (length v)) (drop_at (take start s) (v ++ drop (start + length v) s) start (length-take-le start s (omega arith)))
      ∙ take_at v _ (length v) refl

  byte_kept : (at : ℕ) → at < length s → Kept at 1 → get_or (written s start v) at 0 ≡ get_or s at 0
  unfolding Kept
  byte_kept at h one = sym (number_at_one (written s start v) at (omega (arith, same_size))) ∙ ap number one ∙ number_at_one s at h

  -- a field whose three first bytes are kept stands where it stood
  stands_kept : {at : ℕ} {f : FieldAt} → Kept at 1 → Kept (at + 1) 2 → StandsAt s at f → StandsAt (written s start v) at f
  unfolding Kept
  stands_kept {at} one two x =
      record {
        tag = x.tag ∙ sym (byte_kept at (omega (arith, x.start, x.within)) one);
        start = x.start;
        len = x.len ∙ ap number (sym two);
        within = omega (arith, x.within, same_size);
      }

  -- the fields after the value
  fields_after : {at : ℕ} {fs : List FieldAt} → Fields s at fs → start + length v ≤ at → Fields (written s start v) at fs
  fields_after (none {at} l) h = none {at = at} (omega (arith, same_size))
  fields_after (first {at} x r) h = first (stands_kept (kept_after at 1 h) (kept_after (at + 1) 2 (omega arith)) x) (fields_after r (omega arith))

  parts_after : {at : ℕ} {fs : List FieldAt} → Fields s at fs → start + length v ≤ at → (tag : ℕ) →
      part_of (first_with tag fs) (written s start v) ≡ part_of (first_with tag fs) s
  unfolding first_with Kept
  parts_after (none l) h tag = refl
  parts_after (first {at} {f} {fs} x r) h tag =
      by_test (λ place. part_of place (written s start v) ≡ part_of place s) (eqb f.tag tag) (place_at f.start f.len) (first_with tag fs)
      (λ _. kept_after f.start f.len (omega (arith, x.start))) (λ _. parts_after r (omega arith) tag)

  -- the fields from an offset on, of which the first with the tag has the value at `start`
  record FieldKept (tag at : ℕ) (fs : List FieldAt) : Type 0 where
    before : at + 3 ≤ start
    all : Fields (written s start v) at fs
    others : (other : ℕ) → (tag ≡ other → ⊥) → part_of (first_with other fs) (written s start v) ≡ part_of (first_with other fs) s

  field_kept : (tag : ℕ) {at : ℕ} {fs : List FieldAt} → Fields s at fs → first_with tag fs ≡ place_at start (length v) → FieldKept tag at fs
  unfolding first_with Kept
  field_kept tag (none l) e = impossible cc
  field_kept tag (first {at} {f} {fs} x r) e = ⊎_elim (λ t. later t (field_kept tag r (rw t at e))) (λ t. here t (rw t at e)) (dichotomy (eqb f.tag tag))
    where
      past : (other : ℕ) → eqb f.tag other ≡ false → part_of (first_with other fs) (written s start v) ≡ part_of (first_with other fs) s →
          part_of (first_with other (f ∷ fs)) (written s start v) ≡ part_of (first_with other (f ∷ fs)) s
      past other t p = rw t p

      here : eqb f.tag tag ≡ true → place_at f.start f.len ≡ place_at start (length v) → FieldKept tag at (f ∷ fs)
      here t p =
          let same : ◌≡◌ {A = Place} (record { start = f.start; len = f.len }) (record { start = start; len = length v }) = cc in
          let same_start : f.start ≡ start = ap (λ (place : Place). place.start) same in
          let same_len : f.len ≡ length v = ap (λ (place : Place). place.len) same in
          let own : f.tag ≡ tag = eqb-true _ _ t in
          record {
            before = omega (arith, x.start);
            all = first (stands_kept (kept_before at 1 (omega (arith, x.start))) (kept_before (at + 1) 2 (omega (arith, x.start))) x) (fields_after r (omega (arith, x.start)));
            others = λ other apart. past other (ne_eqb _ _ (λ q. apart (sym own ∙ q))) (parts_after r (omega (arith, x.start)) other);
          }

      later : eqb f.tag tag ≡ false → FieldKept tag (at + (f.len + 3)) fs → FieldKept tag at (f ∷ fs)
      later t kept =
          record {
            before = omega (arith, kept.before);
            all = first (stands_kept (kept_before at 1 (omega (arith, kept.before))) (kept_before (at + 1) 2 (omega (arith, kept.before))) x) kept.all;
            others =
                λ other apart.
                by_test (λ place. part_of place (written s start v) ≡ part_of place s) (eqb f.tag other) (place_at f.start f.len) (first_with other fs)
                (λ _. kept_before f.start f.len (omega (arith, x.start, kept.before))) (λ _. kept.others other apart);
          }

-- what holds of the file with another value in a field
pub record FieldReplaced (rows : List (List ℕ)) (tag : ℕ) (value file : List ℕ) : Type 0 where
  pub stands : (number : ℕ) → file_answer rows number (with_field tag value file) ≡ Ok tt
  pub found : (other : ℕ) → first_place other (fields_part (with_field tag value file)) ≡ first_place other (fields_part file)
  pub places : (other : ℕ) → field_start other (fields_part (with_field tag value file)) ≡ field_start other (fields_part file)
  pub replaced : field_value tag (fields_part (with_field tag value file)) ≡ value
  pub others : (other : ℕ) → (tag ≡ other → ⊥) → field_value other (fields_part (with_field tag value file)) ≡ field_value other (fields_part file)
  pub bytes : Bytes (with_field tag value file)
  pub differs : DiffersInField tag file (with_field tag value file)

written_front : (s t v : List ℕ) (start : ℕ) → start + length v ≤ length s → written (s ++ t) start v ≡ written s start v ++ t
unfolding written
written_front s t v start within =
    rw (take-append-le start s t (omega arith), drop-append-le (start + length v) s t within)
    (sym (append_assoc (take start s) (v ++ drop (start + length v) s) t ∙ ap (λ l. take start s ++ l) (append_assoc v (drop (start + length v) s) t)))

-- the check made anew of bytes before any two
checked_anew_lem : (before last : List ℕ) → length last ≡ 2 → checked_anew (before ++ last) ≡ before ++ bytes_of 2 (check before)
checked_anew_lem before last two =
    let size : length before ≡ length (before ++ last) - 2 = simp length-append (omega arith) in
    ap (λ checked. checked ++ bytes_of 2 (check checked)) (take_at before last (length (before ++ last) - 2) size)

-- the bytes before the last two, and before or after the value
module _ (file value : List ℕ) (start : ℕ) (fits : start + length value ≤ length file) where
  same_elsewhere : (k : ℕ) → k < length file - 2 → (k < start) ⊎ (start + length value ≤ k) → get_or (checked_anew (written file start value)) k 0 ≡ get_or file k 0
  same_elsewhere k below outside =
      let size = same_size file value start fits in
      let kept : Kept file value start fits k 1 =
      ⊎_elim (λ h. kept_before file value start fits k 1 (omega arith)) (λ h. kept_after file value start fits k 1 h) outside in
      get_or-append (take (length (written file start value) - 2) (written file start value)) _ 0 k (simp length-take (omega arith))
      ∙ get_or-take (length (written file start value) - 2) (written file start value) k 0 (omega arith)
      ∙ byte_kept file value start fits k (omega arith) kept

  checked_size : 2 ≤ length file → length (checked_anew (written file start value)) ≡ length file
  checked_size two = simp (length-append, length-take, length_bytes_of, length_written file start value fits) (omega arith)

differs_there : (tag : ℕ) (file value : List ℕ) (start : ℕ) → 5 ≤ length file → start + length value ≤ length (fields_part file) →
    first_place tag (fields_part file) ≡ place_at start (length value) → DiffersInField tag file (with_field tag value file)
differs_there tag file value start long within found =
    let fits : start + length value ≤ length file = omega (arith, simp length-take at within) in
    let sized : length (take (length value) (drop start (fields_part file))) ≡ length value = simp (length-take, length-drop) (omega (arith, simp length-take at within)) in
    rw found (record { size = checked_size file value start fits (omega arith); elsewhere = λ k below outside. same_elsewhere file value start fits k below (rw (found, sized) at outside) })

abbrev check_head : List ℕ
check_head = 255 ∷ 0 ∷ 2 ∷ []

pub field_replaced : (rows : List (List ℕ)) (tag : ℕ) (value file : List ℕ) {start : ℕ} → rising_tags rows ≡ true → Bytes file → Bytes value →
    FileStands rows file → first_place tag (fields_part file) ≡ place_at start (length value) → start + length value ≤ length (fields_part file) →
    FieldReplaced rows tag value file
field_replaced rows tag value file {start} rising bytes spelt stands found within =
    let s = fields_part file in
    let fs = stands.field_list in
    let s' = written s start value in
    let fields_bytes : Bytes s = Bytes-take (length file - 5) file bytes in
    let with_tag : first_with tag fs ≡ place_at start (length value) = sym (walk_first_place rows s fs stands.walks tag) ∙ found in
    let kept = field_kept s value start within tag (walk_fields rows s fs stands.walks) with_tag in
    let walks : walk rows s' ≡ fields fs =
    walk_in_form rows s' fs
    (⊎_elim (λ stand. inl (walk_of_fields (rows_in first_form rows) s' fs (rising_in first_form rows rising) stand kept.all))
    (λ stand. inr (walk_of_fields (rows_in second_form rows) s' fs (rising_in second_form rows rising) stand kept.all))
    (walk_stands rows s fs stands.walks)) in
    let parts = parts_of s' fs in
    let tiles : s' ≡ encoded_parts parts = walk_tiles rows s' fs walks (Bytes-written s start value fields_bytes spelt) in
    let last = bytes_of 2 (check (s ++ check_head)) in
    let split : file ≡ (s ++ check_head) ++ last =
    stands_closed file bytes stands (walk_fields rows s fs stands.walks)
    ∙ ap (λ l. (l ++ check_head) ++ bytes_of 2 (check (l ++ check_head))) (sym (walk_tiles rows s fs stands.walks fields_bytes)) in
    let changed : written file start value ≡ (s' ++ check_head) ++ last =
    ap (λ l. written l start value) split
    ∙ written_front (s ++ check_head) last value start (simp length-append (omega arith))
    ∙ ap (λ l. l ++ last) (written_front s check_head value start within) in
    let is_closed : with_field tag value file ≡ closed parts =
    ap (λ place. checked_anew (written file (start_of place) value)) found ∙ ap checked_anew changed
    ∙ checked_anew_lem (s' ++ check_head) last (length_bytes_of 2 (check (s ++ check_head)))
    ∙ ap (λ l. (l ++ check_head) ++ bytes_of 2 (check (l ++ check_head))) tiles in
    let its_fields : fields_part (with_field tag value file) ≡ s' = ap fields_part is_closed ∙ fields_of_closed parts ∙ sym tiles in
    let place : (other : ℕ) → first_place other s' ≡ first_place other s =
    λ other. walk_first_place rows s' fs walks other ∙ sym (walk_first_place rows s fs stands.walks other) in
    let part_kept : (other : ℕ) → (tag ≡ other → ⊥) → part_of (first_place other s) s' ≡ part_of (first_place other s) s =
    λ other apart. rw (walk_first_place rows s fs stands.walks other) (kept.others other apart) in
    record {
      stands = λ number. ap (file_answer rows number) is_closed ∙ closed_stands parts (walk rows) number fs (ap (walk rows) (sym tiles) ∙ walks);
      found = λ other. ap (first_place other) its_fields ∙ place other;
      places = λ other. ap (field_start other) its_fields ∙ ap start_of (place other);
      replaced = ap (field_value tag) its_fields ∙ ap (λ p. part_of p s') (place tag ∙ found) ∙ value_there s value start within;
      others = λ other apart. ap (field_value other) its_fields ∙ ap (λ p. part_of p s') (place other) ∙ part_kept other apart;
      bytes =
          let whole = written file (field_start tag s) value in
          let checked = take (length whole - 2) whole in
          Bytes-append checked (bytes_of 2 (check checked)) (Bytes-take (length whole - 2) whole (Bytes-written file (field_start tag s) value bytes spelt))
          (bytes_of_bytes 2 (check checked) (omega (arith, check_below 0 checked (omega arith))));
      differs = differs_there tag file value start stands.size within found;
    }
