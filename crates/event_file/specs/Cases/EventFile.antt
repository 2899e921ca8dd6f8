-- Event files, byte by byte: how each stands, where the first field is that can't, and which events it holds.
use Rattle.std.specs.Prelude.{ℕ, ◌≡◌, refl, replicate, Err, Ok}
use mathlib.Core.List.{List, [], ◌∷◌, ◌++◌, map, flat_map}
use Rattle.numbers.specs.BigEndian.{number, bytes_of}
use Rattle.numbers.specs.Check.{check_from}
use Rattle.field_walk.specs.Walk.{FieldAt, Walk, fields, stops}
use Rattle.tagged.specs.Find.{fields_from}
use Rattle.tagged.specs.File.{refusal, FileAnswer}
use Rattle.tagged.specs.Encoded.{closed}
use Rattle.event_file.specs.EventFile.{events_from, events_walk, events_answer, FileEvent, accept, pay_out, hand_over, clear, withdraw, events_of, events_in}
use Rattle.event_file.specs.Written.{event_file}

abbrev refused : ℕ → ℕ → FileAnswer
refused number place = Err (refusal number 1 place)

abbrev event_files : List (List ℕ × FileAnswer)
event_files =
    -- no event; the check of another; no byte
    (255 ∷ 0 ∷ 2 ∷ 17 ∷ 34 ∷ [], Ok tt) ∷
    (255 ∷ 0 ∷ 2 ∷ 17 ∷ 35 ∷ [], refused 2 3) ∷
    ([], refused 1 0) ∷
    -- an accept without book and request, one whose book is a byte longer than it, and one without a length after a clearing
    (1 ∷ 0 ∷ 2 ∷ 0 ∷ 0 ∷ 255 ∷ 0 ∷ 2 ∷ 231 ∷ 241 ∷ [], Ok tt) ∷
    (1 ∷ 0 ∷ 2 ∷ 0 ∷ 1 ∷ 255 ∷ 0 ∷ 2 ∷ 250 ∷ 31 ∷ [], refused 1 0) ∷
    (4 ∷ 0 ∷ 2 ∷ 0 ∷ 1 ∷ 1 ∷ 0 ∷ 1 ∷ 0 ∷ 255 ∷ 0 ∷ 2 ∷ 138 ∷ 231 ∷ [], refused 1 5) ∷
    -- a clearing, a withdrawal, a pay-out and a hand-over
    (
      4 ∷ 0 ∷ 2 ∷ 94 ∷ 251 ∷ 5 ∷ 0 ∷ 4 ∷ 0 ∷ 0 ∷ 0 ∷ 3 ∷ 2 ∷ 0 ∷ 12 ∷ 0 ∷ 0 ∷ 0 ∷ 1 ∷ 0 ∷ 0 ∷ 0 ∷ 0 ∷ 0 ∷ 0 ∷ 0 ∷ 7 ∷ 3 ∷ 0 ∷ 8 ∷ 0 ∷ 0 ∷ 0 ∷ 2 ∷ 0 ∷ 0 ∷
          0 ∷ 77 ∷ 255 ∷ 0 ∷ 2 ∷ 194 ∷ 88 ∷ [],
      Ok tt,
    ) ∷
    -- a rate book, a request and a stored ledger
    (
      1 ∷ 0 ∷ 4 ∷ 82 ∷ 65 ∷ 84 ∷ 69 ∷ 2 ∷ 0 ∷ 2 ∷ 0 ∷ 0 ∷ 3 ∷ 0 ∷ 40 ∷ 0 ∷ 0 ∷ 0 ∷ 0 ∷ 0 ∷ 0 ∷ 0 ∷ 1 ∷ 0 ∷ 0 ∷ 0 ∷ 0 ∷ 0 ∷ 0 ∷ 0 ∷ 1 ∷ 0 ∷ 0 ∷ 0 ∷ 0 ∷ 0 ∷
          0 ∷ 0 ∷ 1 ∷ 0 ∷ 0 ∷ 0 ∷ 0 ∷ 0 ∷ 0 ∷ 0 ∷ 1 ∷ 0 ∷ 0 ∷ 0 ∷ 0 ∷ 0 ∷ 0 ∷ 0 ∷ 1 ∷ 4 ∷ 0 ∷ 2 ∷ 39 ∷ 16 ∷ 5 ∷ 0 ∷ 2 ∷ 39 ∷ 16 ∷ 6 ∷ 0 ∷ 14 ∷ 0 ∷ 76 ∷ 75 ∷
          64 ∷ 0 ∷ 0 ∷ 78 ∷ 32 ∷ 0 ∷ 0 ∷ 78 ∷ 32 ∷ 0 ∷ 84 ∷ 7 ∷ 0 ∷ 3 ∷ 1 ∷ 25 ∷ 100 ∷ 8 ∷ 0 ∷ 21 ∷ 1 ∷ 0 ∷ 0 ∷ 0 ∷ 0 ∷ 0 ∷ 0 ∷ 0 ∷ 0 ∷ 0 ∷ 0 ∷ 33 ∷ 52 ∷ 0 ∷
          0 ∷ 148 ∷ 112 ∷ 0 ∷ 0 ∷ 39 ∷ 16 ∷ 255 ∷ 0 ∷ 2 ∷ 42 ∷ 208 ∷ [],
      refused 1 0,
    ) ∷ (
      1 ∷ 0 ∷ 4 ∷ 67 ∷ 79 ∷ 78 ∷ 78 ∷ 2 ∷ 0 ∷ 4 ∷ 0 ∷ 0 ∷ 18 ∷ 103 ∷ 3 ∷ 0 ∷ 1 ∷ 1 ∷ 4 ∷ 0 ∷ 1 ∷ 1 ∷ 5 ∷ 0 ∷ 24 ∷ 0 ∷ 24 ∷ 100 ∷ 36 ∷ 0 ∷ 0 ∷ 0 ∷ 0 ∷ 0 ∷
          0 ∷ 0 ∷ 0 ∷ 0 ∷ 0 ∷ 0 ∷ 0 ∷ 0 ∷ 0 ∷ 0 ∷ 0 ∷ 0 ∷ 0 ∷ 0 ∷ 0 ∷ 6 ∷ 0 ∷ 45 ∷ 0 ∷ 0 ∷ 0 ∷ 1 ∷ 144 ∷ 0 ∷ 0 ∷ 0 ∷ 0 ∷ 0 ∷ 0 ∷ 0 ∷ 1 ∷ 144 ∷ 0 ∷ 0 ∷ 0 ∷ 0 ∷
          0 ∷ 0 ∷ 0 ∷ 0 ∷ 200 ∷ 0 ∷ 0 ∷ 0 ∷ 0 ∷ 0 ∷ 0 ∷ 0 ∷ 0 ∷ 200 ∷ 0 ∷ 0 ∷ 0 ∷ 0 ∷ 0 ∷ 0 ∷ 0 ∷ 0 ∷ 150 ∷ 0 ∷ 0 ∷ 0 ∷ 0 ∷ 7 ∷ 0 ∷ 20 ∷ 0 ∷ 0 ∷ 0 ∷ 0 ∷ 0 ∷
          0 ∷ 0 ∷ 0 ∷ 0 ∷ 0 ∷ 0 ∷ 0 ∷ 0 ∷ 0 ∷ 0 ∷ 0 ∷ 0 ∷ 0 ∷ 0 ∷ 0 ∷ 8 ∷ 0 ∷ 8 ∷ 0 ∷ 0 ∷ 223 ∷ 232 ∷ 0 ∷ 0 ∷ 0 ∷ 0 ∷ 9 ∷ 0 ∷ 4 ∷ 0 ∷ 0 ∷ 39 ∷ 16 ∷ 10 ∷ 0 ∷
          2 ∷ 39 ∷ 16 ∷ 11 ∷ 0 ∷ 2 ∷ 39 ∷ 16 ∷ 12 ∷ 0 ∷ 9 ∷ 94 ∷ 251 ∷ 0 ∷ 0 ∷ 58 ∷ 152 ∷ 0 ∷ 0 ∷ 0 ∷ 255 ∷ 0 ∷ 2 ∷ 118 ∷ 251 ∷ [],
      refused 1 0,
    ) ∷ (
      1 ∷ 0 ∷ 4 ∷ 80 ∷ 73 ∷ 79 ∷ 78 ∷ 2 ∷ 0 ∷ 22 ∷ 0 ∷ 0 ∷ 0 ∷ 0 ∷ 0 ∷ 0 ∷ 0 ∷ 0 ∷ 0 ∷ 0 ∷ 0 ∷ 0 ∷ 0 ∷ 0 ∷ 0 ∷ 0 ∷ 0 ∷ 0 ∷ 0 ∷ 0 ∷ 0 ∷ 0 ∷ 255 ∷ 0 ∷ 2 ∷
          90 ∷ 114 ∷ [],
      refused 1 0,
    ) ∷
    -- after a clearing: one, two and three bytes, and a field that ends one byte past the last before FF
    (4 ∷ 0 ∷ 2 ∷ 0 ∷ 1 ∷ 5 ∷ 255 ∷ 0 ∷ 2 ∷ 240 ∷ 72 ∷ [], refused 1 5) ∷
    (4 ∷ 0 ∷ 2 ∷ 0 ∷ 1 ∷ 5 ∷ 0 ∷ 255 ∷ 0 ∷ 2 ∷ 53 ∷ 150 ∷ [], refused 1 5) ∷
    (4 ∷ 0 ∷ 2 ∷ 0 ∷ 1 ∷ 5 ∷ 0 ∷ 4 ∷ 255 ∷ 0 ∷ 2 ∷ 6 ∷ 167 ∷ [], refused 1 5) ∷
    (4 ∷ 0 ∷ 2 ∷ 0 ∷ 1 ∷ 5 ∷ 0 ∷ 4 ∷ 0 ∷ 0 ∷ 0 ∷ 255 ∷ 0 ∷ 2 ∷ 82 ∷ 91 ∷ [], refused 1 5) ∷
    -- after a clearing: the tags 0 and 6, and FF before the end
    (4 ∷ 0 ∷ 2 ∷ 0 ∷ 1 ∷ 0 ∷ 0 ∷ 4 ∷ 0 ∷ 0 ∷ 0 ∷ 0 ∷ 255 ∷ 0 ∷ 2 ∷ 206 ∷ 168 ∷ [], refused 1 5) ∷
    (4 ∷ 0 ∷ 2 ∷ 0 ∷ 1 ∷ 6 ∷ 0 ∷ 4 ∷ 0 ∷ 0 ∷ 0 ∷ 0 ∷ 255 ∷ 0 ∷ 2 ∷ 152 ∷ 72 ∷ [], refused 1 5) ∷
    (4 ∷ 0 ∷ 2 ∷ 0 ∷ 1 ∷ 255 ∷ 0 ∷ 2 ∷ 17 ∷ 34 ∷ 255 ∷ 0 ∷ 2 ∷ 134 ∷ 101 ∷ [], refused 1 5) ∷
    -- two faults at once: the last five bytes and the check, the check and a field, two fields
    (255 ∷ 0 ∷ 3 ∷ 17 ∷ 34 ∷ [], refused 1 0) ∷
    (6 ∷ 0 ∷ 0 ∷ 255 ∷ 0 ∷ 2 ∷ 236 ∷ 7 ∷ [], refused 2 6) ∷
    (4 ∷ 0 ∷ 2 ∷ 0 ∷ 1 ∷ 6 ∷ 0 ∷ 0 ∷ 7 ∷ 0 ∷ 0 ∷ 255 ∷ 0 ∷ 2 ∷ 10 ∷ 206 ∷ [], refused 1 5) ∷
    []

pub event_files_stand : map (λ t. events_answer t.0) event_files ≡ map (λ t. t.1) event_files
unfolding number check_from events_from
event_files_stand = refl

-- fields without the last five bytes, and how they walk: none, three in falling order of the tags, and a byte after them
abbrev field : ℕ → ℕ → ℕ → FieldAt
field tag start len = record { tag = tag; start = start; len = len }

abbrev event_walks : List (List ℕ × Walk)
event_walks =
    ([], fields []) ∷
    (5 ∷ 0 ∷ 4 ∷ 0 ∷ 0 ∷ 0 ∷ 3 ∷ 4 ∷ 0 ∷ 2 ∷ 94 ∷ 251 ∷ 1 ∷ 0 ∷ 3 ∷ 0 ∷ 1 ∷ 7 ∷ [], fields (field 5 3 4 ∷ field 4 10 2 ∷ field 1 15 3 ∷ [])) ∷
    (5 ∷ 0 ∷ 4 ∷ 0 ∷ 0 ∷ 0 ∷ 3 ∷ 4 ∷ 0 ∷ 2 ∷ 94 ∷ 251 ∷ 1 ∷ 0 ∷ 3 ∷ 0 ∷ 1 ∷ 7 ∷ 1 ∷ [], stops 18) ∷
    []

pub event_walks_hold : map (λ t. events_walk t.0) event_walks ≡ map (λ t. t.1) event_walks
unfolding number events_from
event_walks_hold = refl

-- the longest event, and after it one that can't stand: its place takes three bytes
pub longest_event_walks : events_walk (1 ∷ 255 ∷ 255 ∷ replicate 65535 0 ++ (6 ∷ 0 ∷ 0 ∷ [])) ≡ stops 65538
unfolding number events_from
longest_event_walks = refl

-- a field of this tag and length, of zeros
abbrev zeros : ℕ → ℕ → ℕ × List ℕ
zeros tag len = (tag, replicate len 0)

-- the fields after a clearing, which is five bytes long
abbrev later_fields : List (List (ℕ × List ℕ) × FileAnswer)
later_fields =
    -- an accept of one byte, of two and of three; its book ends where it does, and one byte past it, also by the length's first byte
    (zeros 1 1 ∷ [], refused 1 5) ∷
    (zeros 1 2 ∷ [], Ok tt) ∷
    (zeros 1 3 ∷ [], Ok tt) ∷
    ((1, 0 ∷ 3 ∷ 7 ∷ 8 ∷ 9 ∷ []) ∷ [], Ok tt) ∷
    ((1, 0 ∷ 4 ∷ 7 ∷ 8 ∷ 9 ∷ []) ∷ [], refused 1 5) ∷
    ((1, 1 ∷ 0 ∷ 7 ∷ 8 ∷ 9 ∷ []) ∷ [], refused 1 5) ∷
    -- each other length: one less, right, one more
    (zeros 2 11 ∷ [], refused 1 5) ∷
    (zeros 2 12 ∷ [], Ok tt) ∷
    (zeros 2 13 ∷ [], refused 1 5) ∷
    (zeros 3 7 ∷ [], refused 1 5) ∷
    (zeros 3 8 ∷ [], Ok tt) ∷
    (zeros 3 9 ∷ [], refused 1 5) ∷
    (zeros 4 1 ∷ [], refused 1 5) ∷
    (zeros 4 2 ∷ [], Ok tt) ∷
    (zeros 4 3 ∷ [], refused 1 5) ∷
    (zeros 5 3 ∷ [], refused 1 5) ∷
    (zeros 5 4 ∷ [], Ok tt) ∷
    (zeros 5 5 ∷ [], refused 1 5) ∷
    -- no byte, and the right length by its second byte alone
    (zeros 5 0 ∷ [], refused 1 5) ∷
    (zeros 5 260 ∷ [], refused 1 5) ∷
    -- every event twice, in falling order of the tags; the first after them that can't stand
    (zeros 5 4 ∷ zeros 4 2 ∷ zeros 3 8 ∷ zeros 2 12 ∷ zeros 1 2 ∷ zeros 5 4 ∷ zeros 4 2 ∷ zeros 3 8 ∷ zeros 2 12 ∷ zeros 1 2 ∷ [], Ok tt) ∷
    (zeros 5 4 ∷ zeros 1 300 ∷ zeros 6 4 ∷ [], refused 1 315) ∷
    []

pub later_fields_stand : map (λ t. events_answer (closed (zeros 4 2 ∷ t.0))) later_fields ≡ map (λ t. t.1) later_fields
unfolding flat_map number bytes_of check_from events_from
later_fields_stand = refl

-- the events of a file, which written again are the file
abbrev files_read : List (List ℕ × List FileEvent)
files_read =
    -- no event
    (255 ∷ 0 ∷ 2 ∷ 17 ∷ 34 ∷ [], []) ∷
    -- the calls above
    (
      4 ∷ 0 ∷ 2 ∷ 94 ∷ 251 ∷ 5 ∷ 0 ∷ 4 ∷ 0 ∷ 0 ∷ 0 ∷ 3 ∷ 2 ∷ 0 ∷ 12 ∷ 0 ∷ 0 ∷ 0 ∷ 1 ∷ 0 ∷ 0 ∷ 0 ∷ 0 ∷ 0 ∷ 0 ∷ 0 ∷ 7 ∷ 3 ∷ 0 ∷ 8 ∷ 0 ∷ 0 ∷ 0 ∷ 2 ∷ 0 ∷ 0 ∷
          0 ∷ 77 ∷ 255 ∷ 0 ∷ 2 ∷ 194 ∷ 88 ∷ [],
      clear 24315 ∷ withdraw 3 ∷ pay_out 1 7 ∷ hand_over 2 77 ∷ [],
    ) ∷
    -- an accept with book and request, without request, without book, and without both
    (
      1 ∷ 0 ∷ 7 ∷ 0 ∷ 2 ∷ 10 ∷ 11 ∷ 12 ∷ 13 ∷ 14 ∷ 1 ∷ 0 ∷ 4 ∷ 0 ∷ 2 ∷ 10 ∷ 11 ∷ 1 ∷ 0 ∷ 5 ∷ 0 ∷ 0 ∷ 12 ∷ 13 ∷ 14 ∷ 1 ∷ 0 ∷ 2 ∷ 0 ∷ 0 ∷ 255 ∷ 0 ∷ 2 ∷ 241 ∷
          38 ∷ [],
      accept (10 ∷ 11 ∷ []) (12 ∷ 13 ∷ 14 ∷ []) ∷ accept (10 ∷ 11 ∷ []) [] ∷ accept [] (12 ∷ 13 ∷ 14 ∷ []) ∷ accept [] [] ∷ [],
    ) ∷
    -- numbers by their bytes, at the highest of their widths too
    (
      3 ∷ 0 ∷ 8 ∷ 1 ∷ 2 ∷ 3 ∷ 4 ∷ 5 ∷ 6 ∷ 7 ∷ 8 ∷ 4 ∷ 0 ∷ 2 ∷ 255 ∷ 254 ∷ 2 ∷ 0 ∷ 12 ∷ 1 ∷ 2 ∷ 3 ∷ 4 ∷ 255 ∷ 255 ∷ 255 ∷ 255 ∷ 255 ∷ 255 ∷ 255 ∷ 255 ∷ 5 ∷
          0 ∷ 4 ∷ 255 ∷ 255 ∷ 255 ∷ 253 ∷ 255 ∷ 0 ∷ 2 ∷ 66 ∷ 20 ∷ [],
      hand_over 16909060 84281096 ∷ clear 65534 ∷ pay_out 16909060 18446744073709551615 ∷ withdraw 4294967293 ∷ [],
    ) ∷
    []

pub files_read_hold : map (λ t. events_in t.0) files_read ≡ map (λ t. t.1) files_read
unfolding number fields_from events_of
files_read_hold = refl

pub files_written_hold : map (λ t. event_file t.1) files_read ≡ map (λ t. t.0) files_read
unfolding flat_map bytes_of check_from
files_written_hold = refl
