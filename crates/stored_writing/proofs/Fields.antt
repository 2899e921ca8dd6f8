-- The stored form written piece by piece: a field, one field more of several, all fields, and the check.
use Prim.Native.Nat.{ℕ, suc, ◌+◌, ◌*◌, ◌<◌, ◌≤◌}
use mathlib.Core.Path.{◌≡◌, refl, sym, ap, ◌∙◌}
use mathlib.Core.List.{List, [], ◌∷◌, ◌++◌, append_assoc, append-nil, flat_map, map, map-append}
use native.Mathlib.Nat.{div-one}
use Rattle.std.proofs.Math.Nat.{mul-le-mul_left}
use native.Mathlib.Numerals.{add-one}
use native.Mathlib.Omega.{arith}
use lib.ListN.{length, get_or, take, length-append}
use Rattle.std.proofs.Common.{add_assoc, drop-drop}
use borrow.Rule.Slice.PartMut.{put_mid}
use lib.Seq.{take-suc, length-take-le}
use Rattle.ledger.specs.Lists.{at_start}
use Rattle.ledger.specs.CapacityColumns.{sum_of}
use Rattle.numbers.specs.BigEndian.{bytes_of}
use Rattle.numbers.specs.Written.{written}
use Rattle.numbers.proofs.Theorems.BigEndian.{length_bytes_of, length_written, take_written, written_written}
use Rattle.numbers.specs.Check.{check}
use Rattle.tagged.specs.Encoded.{encoded_parts}
use Rattle.tagged.proofs.Theorems.FoundFields.{encoded_parts_append}
use Rattle.ledger.specs.declared.records.Scheme.{Scheme}
use Rattle.ledger.specs.declared.records.Party.{Party}
use Rattle.ledger.specs.declared.records.Ledger.{Ledger}
use Rattle.stored.specs.Layout.{record_bytes, number_first, head_widths, head_values, added_widths, added_values, scheme_widths, scheme_values, party_widths, party_values}
use Rattle.stored.proofs.Theorems.Layout.{length_record_bytes, record_bytes_append, written_each, written_each_lem, written_none, written_at_start}
use Rattle.stored.specs.Form.{letters, letters_part, head_part, scheme_part, party_part, scheme_parts, party_parts, stored_parts, header_length, scheme_length, check_length, stored_form, form_length}
use Rattle.stored.proofs.Theorems.Form.{length_one, letters_field, length_encoded_parts, length_front, length_until_entries, length_fields}
use Rattle.stored.specs.declared.form.Form.{Form}
use Rattle.stored.specs.declared.form.Form.TheVariants.{Pion, Pio2}

-- a number as one byte is that byte
bytes_of_one : (n : ℕ) → bytes_of 1 n ≡ n ∷ []
unfolding bytes_of
bytes_of_one n = rw div-one

-- bytes copied to a place are written there
written_part : (out : List ℕ) (at : ℕ) (bytes : List ℕ) → put_mid at (length bytes) out bytes ≡ written out at bytes
unfolding written
written_part out at bytes = rw drop-drop refl

-- a field's tag and length
pub written_start : (out : List ℕ) (at tag len : ℕ) → at + 3 ≤ length out →
    written (written out at (bytes_of 1 tag)) (at + 1) (bytes_of 2 len) ≡ written out at (tag ∷ bytes_of 2 len)
written_start out at tag len fits =
    rw bytes_of_one (written_written out at (tag ∷ []) (bytes_of 2 len) (simp length_bytes_of (omega arith)))

-- and then its value
written_value : (out : List ℕ) (at tag size : ℕ) (value : List ℕ) → length value ≡ size → at + 3 + size ≤ length out →
    written (written out at (tag ∷ bytes_of 2 size)) (at + 3) value ≡ written out at (encoded_parts ((tag, value) ∷ []))
unfolding flat_map
written_value out at tag size value same fits =
    let start = tag ∷ bytes_of 2 size in
    let long : length start ≡ 3 = simp length_bytes_of in
    rw (append-nil, same) (rw long at (written_written out at start value (omega arith)))

-- a value in two parts
written_parts : (out : List ℕ) (at tag size : ℕ) (front back : List ℕ) → length front + length back ≡ size → at + 3 + size ≤ length out →
    (next : ℕ) → next ≡ at + 3 + length front →
    written (written (written out at (tag ∷ bytes_of 2 size)) (at + 3) front) next back ≡ written out at (encoded_parts ((tag, front ++ back) ∷ []))
written_parts out at tag size front back same fits next place =
    let start = tag ∷ bytes_of 2 size in
    let long : length start ≡ 3 = simp length_bytes_of in
    let kept : length (written out at start) ≡ length out = length_written out at start (omega arith) in
    rw (place, written_written (written out at start) (at + 3) front back (omega arith))
    (written_value out at tag size (front ++ back) (length-append front back ∙ same) fits)

-- field 01
letters_written : (out : List ℕ) (form : Form) → 7 ≤ length out →
    put_mid 3 4 (written out 0 (1 ∷ bytes_of 2 4)) (letters form) ≡ written out 0 (encoded_parts (letters_part form ∷ []))
letters_written out Pion fits = written_part (written out 0 (1 ∷ bytes_of 2 4)) 3 (letters Pion) ∙ written_value out 0 1 4 (letters Pion) refl (omega arith)
letters_written out Pio2 fits = written_part (written out 0 (1 ∷ bytes_of 2 4)) 3 (letters Pio2) ∙ written_value out 0 1 4 (letters Pio2) refl (omega arith)

pub letters_pion : (out : List ℕ) → 7 ≤ length out →
    put_mid 3 4 (written out 0 (1 ∷ bytes_of 2 4)) (80 ∷ 73 ∷ 79 ∷ 78 ∷ []) ≡ written out 0 (encoded_parts (letters_part Pion ∷ []))
letters_pion out fits = letters_written out Pion fits

pub letters_pio2 : (out : List ℕ) → 7 ≤ length out →
    put_mid 3 4 (written out 0 (1 ∷ bytes_of 2 4)) (80 ∷ 73 ∷ 79 ∷ 50 ∷ []) ≡ written out 0 (encoded_parts (letters_part Pio2 ∷ []))
letters_pio2 out fits = letters_written out Pio2 fits

-- field 02: the numbers of a layout one after the other, and then the field
pub written_head : (out : List ℕ) (ledger : Ledger) → 32 ≤ length out →
    written_each out 10 head_widths (head_values ledger) ≡ written out 10 (record_bytes head_widths (head_values ledger))
written_head out ledger fits = written_each_lem head_widths (head_values ledger) out 10 refl (omega arith)

pub written_added : (out : List ℕ) (ledger : Ledger) → 64 ≤ length out →
    written_each out 32 added_widths (added_values ledger) ≡ written out 32 (record_bytes added_widths (added_values ledger))
written_added out ledger fits = written_each_lem added_widths (added_values ledger) out 32 refl (omega arith)

pub head_pion : (out : List ℕ) (ledger : Ledger) → 32 ≤ length out →
    written (written out 7 (2 ∷ bytes_of 2 22)) 10 (record_bytes head_widths (head_values ledger)) ≡ written out 7 (encoded_parts (head_part Pion ledger ∷ []))
head_pion out ledger fits = written_value out 7 2 22 (record_bytes head_widths (head_values ledger)) (length_record_bytes head_widths (head_values ledger) refl) (omega arith)

pub head_pio2 : (out : List ℕ) (ledger : Ledger) → 64 ≤ length out →
    written (written (written out 7 (2 ∷ bytes_of 2 54)) 10 (record_bytes head_widths (head_values ledger))) 32 (record_bytes added_widths (added_values ledger))
    ≡ written out 7 (encoded_parts (head_part Pio2 ledger ∷ []))
head_pio2 out ledger fits =
    let front = record_bytes head_widths (head_values ledger) in
    let back = record_bytes added_widths (added_values ledger) in
    let first : length front ≡ 22 = length_record_bytes head_widths (head_values ledger) refl in
    let second : length back ≡ 32 = length_record_bytes added_widths (added_values ledger) refl in
    written_parts out 7 2 54 front back (omega arith) (omega arith) 32 (omega arith)
    ∙ ap (λ value. written out 7 (encoded_parts ((2, value) ∷ []))) (sym (record_bytes_append head_widths added_widths (head_values ledger) (added_values ledger) refl))

-- the numbers of a scheme's layout and of an entry's
pub written_scheme : (out : List ℕ) (at : ℕ) (scheme : Scheme) → at + 24 ≤ length out →
    written
    (written
    (written
    (written
    (written (written out at (bytes_of 4 scheme.cost)) (at + 4) (bytes_of 4 scheme.fee))
    (at + 8)
    (bytes_of 4 scheme.minimum))
    (at + 12)
    (bytes_of 2 scheme.opening))
    (at + 14)
    (bytes_of 2 scheme.term))
    (at + 16)
    (bytes_of 8 scheme.fees)
    ≡ written out at (record_bytes scheme_widths (scheme_values scheme))
unfolding written_each
written_scheme out at scheme fits = simp add_assoc at (written_each_lem scheme_widths (scheme_values scheme) out at refl (omega arith))

pub written_party : (out : List ℕ) (at : ℕ) (party : Party) → at + 30 ≤ length out →
    written
    (written
    (written
    (written
    (written (written out at (bytes_of 2 party.scheme)) (at + 2) (bytes_of 4 party.person))
    (at + 6)
    (bytes_of 4 party.capacity))
    (at + 10)
    (bytes_of 4 party.put_in))
    (at + 14)
    (bytes_of 8 party.credited))
    (at + 22)
    (bytes_of 8 party.paid_out)
    ≡ written out at (record_bytes party_widths (party_values party))
unfolding written_each
written_party out at party fits = simp add_assoc at (written_each_lem party_widths (party_values party) out at refl (omega arith))

-- a record's field
module _ (out : List ℕ) (at tag : ℕ) (widths values : List ℕ) (same : length values ≡ length widths) where
  pub record_pion : at + (sum_of widths + 3) ≤ length out →
      written (written out at (tag ∷ bytes_of 2 (sum_of widths))) (at + 3) (record_bytes widths values) ≡ written out at (encoded_parts ((tag, record_bytes widths values) ∷ []))
  record_pion fits = written_value out at tag (sum_of widths) (record_bytes widths values) (length_record_bytes widths values same) (omega arith)

  pub record_pio2 : (number : ℕ) → at + (sum_of (4 ∷ widths) + 3) ≤ length out →
      written (written (written out at (tag ∷ bytes_of 2 (sum_of (4 ∷ widths)))) (at + 3) (bytes_of 4 number)) (at + 7) (record_bytes widths values)
      ≡ written out at (encoded_parts ((tag, record_bytes (4 ∷ widths) (number ∷ values)) ∷ []))
  unfolding record_bytes
  record_pio2 number fits =
      let first : length (bytes_of 4 number) ≡ 4 = length_bytes_of 4 number in
      written_parts out at tag (sum_of (4 ∷ widths)) (bytes_of 4 number) (record_bytes widths values)
      (omega (arith, length_record_bytes widths values same)) (omega arith) (at + 7) (omega arith)

-- the same of a record in a form, where it is known which
module _ (out : List ℕ) (at tag n : ℕ) (widths values : List ℕ) (same : length values ≡ length widths) (form : Form) (part : ℕ × List ℕ) (size : ℕ)
    (is : part ≡ (tag, record_bytes (number_first form 4 widths) (number_first form n values))) (long : size ≡ sum_of (number_first form 4 widths))
    (fits : at + (size + 3) ≤ length out) where
  pub field_pion : form ≡ Pion →
      written (written out at (tag ∷ bytes_of 2 size)) (at + 3) (record_bytes widths values) ≡ written out at (encoded_parts (part ∷ []))
  field_pion old =
      rw (is, long, old) (record_pion out at tag widths values same (omega (arith, fits, long, ap (λ f. sum_of (number_first f 4 widths)) old)))

  pub field_pio2 : form ≡ Pio2 →
      written (written (written out at (tag ∷ bytes_of 2 size)) (at + 3) (bytes_of 4 n)) (at + 7) (record_bytes widths values)
      ≡ written out at (encoded_parts (part ∷ []))
  field_pio2 new =
      rw (is, long, new) (record_pio2 out at tag widths values same n (omega (arith, fits, long, ap (λ f. sum_of (number_first f 4 widths)) new)))

-- how long it is
pub record_sized : {A : Type 0} (part : A → ℕ × List ℕ) (tag : ℕ) (widths : List ℕ) (form : Form) (number : A → ℕ) (values : A → List ℕ) (size : ℕ) →
    ((x : A) → part x ≡ (tag, record_bytes (number_first form 4 widths) (number_first form (number x) (values x)))) →
    size ≡ sum_of (number_first form 4 widths) → ((x : A) → length (values x) ≡ length widths) → (x : A) → length (part x).1 + 3 ≡ size + 3
record_sized part tag widths form number values size parts sizes lengths x =
    let long : length (part x).1 ≡ sum_of (number_first form 4 widths) =
    ap (λ p. length p.1) (parts x) ∙ length_record_bytes (number_first form 4 widths) (number_first form (number x) (values x)) (as_many form) in
    omega (arith, long, sizes)
  where
    as_many : (form : Form) → length (number_first form (number x) (values x)) ≡ length (number_first form 4 widths)
    as_many Pion = lengths x
    as_many Pio2 = ap suc (lengths x)

-- no fields
pub written_no_fields : (out : List ℕ) (at : ℕ) → written out at (encoded_parts []) ≡ out
unfolding flat_map
written_no_fields out at = written_none out at

-- fields after fields are all of them at once
written_more : (out : List ℕ) (at : ℕ) (parts others : List (ℕ × List ℕ)) (next : ℕ) → next ≡ at + length (encoded_parts parts) →
    next + length (encoded_parts others) ≤ length out →
    written (written out at (encoded_parts parts)) next (encoded_parts others) ≡ written out at (encoded_parts (parts ++ others))
written_more out at parts others next place fits =
    rw (place, encoded_parts_append) (written_written out at (encoded_parts parts) (encoded_parts others) (omega arith))

-- how long fields are whose length is the same
length_whole : {A : Type 0} (part : A → ℕ × List ℕ) (long : ℕ) → ((x : A) → length (part x).1 + 3 ≡ long) → (xs : List A) →
    length (encoded_parts (map part xs)) ≡ long * length xs
unfolding flat_map
length_whole part long sized [] = omega arith
length_whole part long sized (x ∷ xs) =
    simp (length-append, length_bytes_of) (omega (arith, sized x, length_whole part long sized xs))

-- there is room for the next
room_for_next : (at long i count room : ℕ) → i < count → at + long * count ≤ room → at + long * i + long ≤ room
room_for_next at long i count room more fits = let next : i + 1 ≤ count = omega arith in omega (arith, mul-le-mul_left long next)

-- one field more of those of a list, which all have this length
pub one_record_more : {A : Type 0} (part : A → ℕ × List ℕ) (long : ℕ) → ((x : A) → length (part x).1 + 3 ≡ long) →
    (out : List ℕ) (at : ℕ) (xs : List A) (i : ℕ) (x : A) → x ≡ get_or xs i x → i < length xs → at + long * length xs ≤ length out →
    written (written out at (encoded_parts (map part (take i xs)))) (at + long * i) (encoded_parts (part x ∷ []))
    ≡ written out at (encoded_parts (map part (take (i + 1) xs)))
one_record_more part long sized out at xs i x here more fits =
    let ends : length (encoded_parts (map part (take i xs))) ≡ long * i =
    length_whole part long sized (take i xs) ∙ ap (λ n. long * n) (length-take-le i xs (omega arith)) in
    rw (add-one, take-suc xs i x, map-append, ← here)
    (written_more out at (map part (take i xs)) (part x ∷ []) (at + long * i) (omega arith) (omega (arith, length_one (part x), sized x, room_for_next at long i (length xs) (length out) more fits)))

-- all fields but the last
pub written_stored : (form : Form) (ledger : Ledger) (parties : List Party) (out : List ℕ) → ledger.count ≤ length ledger.schemes → ledger.entries ≤ length parties →
    form_length form ledger.count ledger.entries ≤ length out →
    written
    (written
    (written (written out 0 (encoded_parts (letters_part form ∷ []))) 7 (encoded_parts (head_part form ledger ∷ [])))
    (header_length form)
    (encoded_parts (map (scheme_part form) (take ledger.count ledger.schemes))))
    (header_length form + scheme_length form * ledger.count)
    (encoded_parts (map (party_part form) (take ledger.entries parties)))
    ≡ written out 0 (encoded_parts (stored_parts form ledger parties))
unfolding scheme_parts party_parts
written_stored form ledger parties out places entries fits =
    let head = head_part form ledger in
    let schemes = map (scheme_part form) (take ledger.count ledger.schemes) in
    let others = map (party_part form) (take ledger.entries parties) in
    let front = letters_part form ∷ head ∷ [] in
    let until = letters_part form ∷ head ∷ schemes in
    let letters_long : length (encoded_parts (letters_part form ∷ [])) ≡ 7 = letters_field form in
    let front_long : length (encoded_parts front) ≡ header_length form = length_front form ledger in
    let until_long : length (encoded_parts until) ≡ header_length form + scheme_length form * ledger.count = length_until_entries form ledger places in
    let whole : length (encoded_parts (until ++ others)) + check_length ≡ form_length form ledger.count ledger.entries = length_fields form ledger parties places entries in
    let front_is = length_encoded_parts (letters_part form ∷ []) (head ∷ []) in
    let until_is = length_encoded_parts front schemes in
    let whole_is = length_encoded_parts until others in
    rw (
      written_more out 0 (letters_part form ∷ []) (head ∷ []) 7 (omega arith) (omega arith),
      written_more out 0 front schemes (header_length form) (omega arith) (omega arith),
    )
    (written_more out 0 until others (header_length form + scheme_length form * ledger.count) (omega arith) (omega arith))

two_bytes : bytes_of 2 2 ≡ 0 ∷ 2 ∷ []
unfolding bytes_of
two_bytes = refl

-- the last field's start, and then the check of all bytes before its value
pub written_check : (out : List ℕ) (at : ℕ) → at + check_length ≤ length out →
    written (written out at (255 ∷ bytes_of 2 2)) (at + 3) (bytes_of 2 (check (take (at + 3) (written out at (255 ∷ bytes_of 2 2)))))
    ≡ written out at (255 ∷ 0 ∷ 2 ∷ bytes_of 2 (check (take at out ++ 255 ∷ 0 ∷ 2 ∷ [])))
written_check out at fits =
    let start : List ℕ = 255 ∷ 0 ∷ 2 ∷ [] in
    let until : take (at + 3) (written out at start) ≡ take at out ++ start = take_written out at start (omega arith) in
    let sum = bytes_of 2 (check (take at out ++ start)) in
    let two : length sum ≡ 2 = length_bytes_of 2 (check (take at out ++ start)) in
    rw (two_bytes, until) (written_written out at start sum (omega arith))

-- and so the form
pub written_form : (form : Form) (ledger : Ledger) (parties : List Party) (out : List ℕ) (at : ℕ) → at ≡ length (encoded_parts (stored_parts form ledger parties)) → at + check_length ≤ length out →
    written (written out 0 (encoded_parts (stored_parts form ledger parties))) at
    (255 ∷ 0 ∷ 2 ∷ bytes_of 2 (check (take at (written out 0 (encoded_parts (stored_parts form ledger parties))) ++ 255 ∷ 0 ∷ 2 ∷ [])))
    ≡ at_start (stored_form form ledger parties) out
unfolding stored_form
written_form form ledger parties out at place fits =
    let bytes = encoded_parts (stored_parts form ledger parties) in
    let start : List ℕ = 255 ∷ 0 ∷ 2 ∷ [] in
    let checked = bytes ++ start in
    let sum = bytes_of 2 (check checked) in
    let two : length sum ≡ 2 = length_bytes_of 2 (check checked) in
    let here : at ≡ 0 + length bytes = omega arith in
    let until : take at (written out 0 bytes) ≡ bytes = rw here (take_written out 0 bytes (omega arith)) in
    rw (until, here) (written_written out 0 bytes (start ++ sum) (omega arith) ∙ rw (← append_assoc) (written_at_start out (checked ++ sum)))
