-- What is written of events is read as them.
use Rattle.std.specs.Prelude.{ℕ, ◌+◌, ◌-◌, ◌%◌, ◌^◌, ◌<◌, ◌≤◌, ◌≡◌, refl, true, length, take, drop, Ok}
use Rattle.std.specs.List.{AllByRecursion}
use Rattle.std.proofs.Common.{sym, ap, ap₂, ◌∙◌, ⊎_elim, subst, arith, le-ltb, le-leb, length-append, drop-drop, take_at, drop_at, take_all}
use mathlib.Core.List.Memᴰ
use mathlib.Core.List.{List, [], ◌∷◌, ◌++◌, map, Memᴰ}
use Rattle.std.proofs.Math.Nat.{mod-one}
use Rattle.numbers.specs.BigEndian.{number, number_at, bytes_of}
use Rattle.numbers.proofs.Theorems.BigEndian.{length_bytes_of, number_of_bytes_of}
use Rattle.field_walk.specs.Walk.{FieldAt, value_of, fields}
use Rattle.tagged.specs.Find.{fields_of, part_of}
use Rattle.tagged.specs.WalkRelations.{Fields}
use Rattle.tagged.specs.Encoded.{encoded_parts}
use Rattle.tagged.specs.WalkEncoded.{parts_of, Short, places_from}
use Rattle.tagged.proofs.Theorems.ClosedFiles.{fields_of_closed, closed_stands}
use Rattle.tagged.proofs.Theorems.FoundFields.{Fields-found}
use Rattle.tagged.proofs.Theorems.WalkEncoded.{encoded_fields, walk_parts_of_encoded}
use Rattle.event_file.specs.EventFile.{book_length, book_place, request_place, event_stands, events_walk, events_answer, FileEvent, accept, pay_out, hand_over, clear, withdraw, event_of, events_of, events_in}
use Rattle.event_file.specs.EventRows.{accept_tag}
use Rattle.event_file.specs.Written.{event_part, event_file, EventWithin}
use Rattle.event_file.proofs.Theorems.EventFile.{events_walk_of}

-- a number at the front of bytes, and one after it
number_first : (width n : ℕ) (t : List ℕ) → n < 256 ^ width → number_at (bytes_of width n ++ t) 0 width ≡ n
number_first width n t below = ap number (take_at (bytes_of width n) t width (length_bytes_of width n)) ∙ number_of_bytes_of width n below

number_second : (first m width n : ℕ) → n < 256 ^ width → number_at (bytes_of first m ++ bytes_of width n) first width ≡ n
number_second first m width n below =
    ap (λ s. number (take width s)) (drop_at (bytes_of first m) (bytes_of width n) first (length_bytes_of first m))
    ∙ ap number (take_all width (bytes_of width n) (omega (arith, length_bytes_of width n))) ∙ number_of_bytes_of width n below

number_whole : (width n : ℕ) → n < 256 ^ width → number_at (bytes_of width n) 0 width ≡ n
number_whole width n below = ap number (take_all width (bytes_of width n) (omega (arith, length_bytes_of width n))) ∙ number_of_bytes_of width n below

-- the value of an accept
module _ (book request : List ℕ) (within : length book + length request ≤ 65533) where
  value : List ℕ
  value = bytes_of 2 (length book) ++ (book ++ request)

  value_size : length value ≡ 2 + (length book + length request)
  unfolding value
  value_size = simp (length-append, length_bytes_of) (omega arith)

  value_book : book_length value ≡ length book
  unfolding value
  value_book = number_first 2 (length book) (book ++ request) (omega arith)

  past_length : drop 2 value ≡ book ++ request
  unfolding value
  past_length = drop_at (bytes_of 2 (length book)) (book ++ request) 2 (length_bytes_of 2 (length book))

  -- what is read there
  book_read : part_of (book_place value) value ≡ book
  book_read = rw (value_book, past_length) (take_at book request (length book) refl)

  request_read : part_of (request_place value) value ≡ request
  request_read =
      let rest : drop (2 + length book) value ≡ request =
      sym (drop-drop (length book) 2 value) ∙ ap (drop (length book)) past_length
      ∙ drop_at book request (length book) refl in
      rw (value_book, rest) (take_all (length value - (2 + length book)) request (omega (arith, value_size)))

accept_stands : (s : List ℕ) → 2 ≤ length s → length s ≤ 65535 → book_length s + 2 ≤ length s → event_stands accept_tag s ≡ true
accept_stands s low high book = let whole : (length s - 2) % 1 ≡ 0 = mod-one (length s - 2) in rw (le-ltb (length s) 2 low, le-ltb 65535 (length s) high, whole, le-leb (book_length s + 2) (length s) book)

pub part_stands : (event : FileEvent) → EventWithin event → event_stands (event_part event).0 (event_part event).1 ≡ true
unfolding value
part_stands (accept book request) within =
    accept_stands (value book request within) (omega (arith, value_size book request within)) (omega (arith, value_size book request within))
    (omega (arith, value_size book request within, value_book book request within))
part_stands (pay_out entry amount) within = rw (length-append, length_bytes_of 4 entry, length_bytes_of 8 amount)
part_stands (hand_over entry person) within = rw (length-append, length_bytes_of 4 entry, length_bytes_of 4 person)
part_stands (clear month) within = rw length_bytes_of
part_stands (withdraw entry) within = rw length_bytes_of

pub part_read : (event : FileEvent) → EventWithin event → event_of (event_part event).0 (event_part event).1 ≡ event
unfolding bytes_of value
part_read (accept book request) within = ap₂ accept (book_read book request within) (request_read book request within)
part_read (pay_out entry amount) within = ap₂ pay_out (number_first 4 entry (bytes_of 8 amount) within.0) (number_second 4 entry 8 amount within.1)
part_read (hand_over entry person) within = ap₂ hand_over (number_first 4 entry (bytes_of 4 person) within.0) (number_second 4 entry 4 person within.1)
part_read (clear month) within = ap clear (number_whole 2 month within)
part_read (withdraw entry) within = ap withdraw (number_whole 4 entry within)

pub part_short : (event : FileEvent) → EventWithin event → length (event_part event).1 < 65536
part_short (accept book request) within = simp (length-append, length_bytes_of) (omega arith)
part_short (pay_out entry amount) within = simp (length-append, length_bytes_of) (omega arith)
part_short (hand_over entry person) within = simp (length-append, length_bytes_of) (omega arith)
part_short (clear month) within = simp length_bytes_of (omega arith)
part_short (withdraw entry) within = simp length_bytes_of (omega arith)

-- what holds of the parts of events within their widths
each_part : (P : ℕ × List ℕ → Type 0) → ((event : FileEvent) → EventWithin event → P (event_part event)) → (events : List FileEvent) → AllByRecursion EventWithin events →
    (part : ℕ × List ℕ) → Memᴰ part (map event_part events) → P part
each_part P holds [] within part among = absurd (Memᴰ.not-nil among)
each_part P holds (event ∷ events) within part among =
    ⊎_elim (λ e. subst P (sym e) (holds event within.0)) (each_part P holds events within.1 part) (Memᴰ.cases_cons among)

places_short : (parts : List (ℕ × List ℕ)) (at : ℕ) → ((part : ℕ × List ℕ) → Memᴰ part parts → length part.1 < 65536) → Short (places_from at parts)
unfolding places_from
places_short [] at h f among = absurd (Memᴰ.not-nil among)
places_short (part ∷ parts) at h f among =
    ⊎_elim (λ e. rw e (h part (Memᴰ.head refl))) (places_short parts _ (λ q i. h q (Memᴰ.tail i)) f) (Memᴰ.cases_cons among)

-- the fields of a file have what holds of its parts
each_place : (s : List ℕ) (fs : List FieldAt) (parts : List (ℕ × List ℕ)) → parts_of s fs ≡ parts →
    ((part : ℕ × List ℕ) → Memᴰ part parts → event_stands part.0 part.1 ≡ true) → (f : FieldAt) → Memᴰ f fs → event_stands f.tag (value_of s f) ≡ true
each_place s fs parts are h f among = h (f.tag, value_of s f) (subst (Memᴰ (f.tag, value_of s f)) are (among_parts fs among))
  where
    among_parts : (fs : List FieldAt) → Memᴰ f fs → Memᴰ (f.tag, value_of s f) (parts_of s fs)
    among_parts [] i = absurd (Memᴰ.not-nil i)
    among_parts (g ∷ gs) i = ⊎_elim (λ e. Memᴰ.head (ap (λ x. (x.tag, value_of s x)) e)) (λ j. Memᴰ.tail (among_parts gs j)) (Memᴰ.cases_cons i)

parts_read : (events : List FileEvent) → AllByRecursion EventWithin events → map (λ part. event_of part.0 part.1) (map event_part events) ≡ events
parts_read [] within = refl
parts_read (event ∷ events) within = ap₂ ◌∷◌ (part_read event within.0) (parts_read events within.1)

pub events_read_back : (events : List FileEvent) → AllByRecursion EventWithin events → (events_answer (event_file events) ≡ Ok tt) × (events_in (event_file events) ≡ events)
unfolding events_of
events_read_back events within =
    let parts = map event_part events in
    let s = encoded_parts parts in
    let fs = places_from 0 parts in
    let follow : Fields s 0 fs = encoded_fields s 0 parts refl (places_short parts 0 (each_part (λ part. length part.1 < 65536) part_short events within)) in
    let walks : events_walk s ≡ fields fs = events_walk_of s fs follow (each_place s fs parts (walk_parts_of_encoded parts) (each_part (λ part. event_stands part.0 part.1 ≡ true) part_stands events within)) in
    let found : fields_of s ≡ fs = Fields-found follow (length s + 1) (omega arith) in
    let read : map (λ part. event_of part.0 part.1) (parts_of s (fields_of s)) ≡ events =
    ap (λ fs. map (λ part. event_of part.0 part.1) (parts_of s fs)) found
    ∙ ap (map (λ part. event_of part.0 part.1)) (walk_parts_of_encoded parts)
    ∙ parts_read events within in
    (closed_stands parts events_walk 1 fs walks, ap events_of (fields_of_closed parts) ∙ read)
