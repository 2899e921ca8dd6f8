-- Document 02, E13: the event file, how it stands and which events it holds. Fields come in any order and number, so that a field stands by itself alone.
use Rattle.std.specs.Prelude.{ℕ, zero, suc, ◌+◌, ◌-◌, List, [], map, Bool, true, false, length, take, drop, Option, if◌then◌else◌, ◌==◌, ◌&&◌, nat_le, slice_index}
use Rattle.std.specs.List.{list_any}
use Rattle.numbers.specs.BigEndian.{number_at}
use Rattle.field_walk.specs.Walk.{tag_of, permitted_by, length_at, Walk, fields, stops, and_then}
use Rattle.tagged.specs.Find.{whole_field, fields_of, place_at, part_of}
use Rattle.tagged.specs.WalkEncoded.{parts_of}
use Rattle.tagged.specs.File.{fields_part, answer_by_walk, FileAnswer}
use Rattle.tagged.specs.declared.find.Place.{Place}
use Rattle.event_file.specs.EventRows.{accept_tag, pay_out_tag, hand_over_tag, clear_tag, event_rows}

-- "2-byte length of the book, the book, the request"
abbrev pub book_length : List ℕ → ℕ
book_length value = number_at value 0 2

abbrev pub book_place : List ℕ → Option Place
book_place value = place_at 2 (book_length value)

abbrev pub request_place : List ℕ → Option Place
request_place value = place_at (2 + book_length value) (length value - (2 + book_length value))

-- one of these rows has this tag and permits the length
abbrev pub listed : List (List ℕ) → ℕ → ℕ → Bool
listed rows tag len = list_any (λ row. (tag_of row == tag) && permitted_by row len) rows

-- "A book length past its event is 1, as a length not permitted."
abbrev pub book_ends_within : List ℕ → Bool
book_ends_within value = nat_le (book_length value + 2) (length value)

abbrev pub event_stands : ℕ → List ℕ → Bool
event_stands tag value =
    if listed event_rows tag (length value) then (if tag == accept_tag then book_ends_within value else true)
    else false

-- the value of the field that the rest s of a file starts with; an event stands there
abbrev pub front_value : List ℕ → List ℕ
front_value s = take (length_at s) (drop 3 s)

abbrev pub front_stands : List ℕ → Bool
front_stands s = if whole_field s then event_stands (slice_index s 0) (front_value s) else false

-- "The walk goes on with the rest of the file after the field." `at` is the offset of the rest, `most` bounds the number of fields.
unfoldable pub events_from : ℕ → ℕ → List ℕ → Walk
events_from zero at s = stops at
events_from (suc most) at s =
    if front_stands s
    then and_then (record { tag = slice_index s 0; start = at + 3; len = length_at s }) (events_from most (at + (length_at s + 3)) (drop (length_at s + 3) s))
    else if length s == 0 then fields [] else stops at

abbrev pub events_walk : List ℕ → Walk
events_walk s = events_from (length s + 1) 0 s

-- "then 1 and 2 for the event file in document 01's order": a file read alone has number 1
abbrev pub events_answer : List ℕ → FileAnswer
events_answer file = answer_by_walk 1 file (events_walk (fields_part file))

-- An event: a call, with what.
pub data FileEvent : Type 0 where
  -- book and request
  accept : List ℕ → List ℕ → FileEvent
  -- entry and amount
  pay_out : ℕ → ℕ → FileEvent
  -- entry and person
  hand_over : ℕ → ℕ → FileEvent
  -- month
  clear : ℕ → FileEvent
  -- entry
  withdraw : ℕ → FileEvent

-- the event of a tag and a value
abbrev pub event_of : ℕ → List ℕ → FileEvent
event_of tag value =
    if tag == accept_tag then accept (part_of (book_place value) value) (part_of (request_place value) value)
    else if tag == pay_out_tag then pay_out (number_at value 0 4) (number_at value 4 8)
    else if tag == hand_over_tag then hand_over (number_at value 0 4) (number_at value 4 4)
    else if tag == clear_tag then clear (number_at value 0 2)
    else withdraw (number_at value 0 4)

-- the events of a file's fields, in their order
unfoldable pub events_of : List ℕ → List FileEvent
events_of s = map (λ part. event_of part.0 part.1) (parts_of s (fields_of s))

abbrev pub events_in : List ℕ → List FileEvent
events_in file = events_of (fields_part file)
