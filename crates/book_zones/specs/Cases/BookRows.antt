-- Rate books with one field altered, left out, doubled or of another length, and how each file stands by the rows.
use Rattle.std.specs.Prelude.{ℕ, ◌≡◌, refl, true, replicate, take, Err, Ok}
use mathlib.Core.List.{List, [], ◌∷◌, ◌++◌, map, flat_map}
use Rattle.numbers.specs.BigEndian.{number, bytes_of}
use Rattle.numbers.specs.Check.{check_from}
use Rattle.field_walk.specs.Walk.{due_from, all_had, front_of, walk_from}
use Rattle.tagged.specs.File.{file_answer, refusal, FileAnswer}
use Rattle.tagged.specs.Cases.AlteredFields.{zeros, without, twice, longer, shorter, sized, stopping}
use Rattle.tagged.specs.Encoded.{closed}
use Rattle.tagged.specs.RisingTags.{rising_tags}
use Rattle.book_zones.specs.BookRows.{book_rows}

-- "in rising tag order"
pub book_rows_rise : rising_tags book_rows ≡ true
book_rows_rise = refl

-- For a table of files: a book's fields, with lists of two and three factors, and three zones. Each row gives the offset of the field that can't stand.
abbrev some_fields : List (ℕ × List ℕ)
some_fields = zeros ((1, 4) ∷ (2, 2) ∷ (3, 40) ∷ (4, 4) ∷ (5, 6) ∷ (6, 14) ∷ (7, 3) ∷ (8, 21) ∷ (8, 21) ∷ (8, 21) ∷ [])

abbrev stops : ℕ → FileAnswer
stops place = Err (refusal 1 1 place)

-- with so many zones
abbrev zones : ℕ → List (ℕ × List ℕ)
zones count = take 7 some_fields ++ replicate count (8, replicate 21 0)

abbrev book_files : List (List (ℕ × List ℕ) × FileAnswer)
book_files =
    (some_fields, Ok tt) ∷
    -- each field left out, and twice
    stopping 1 without some_fields 0 (0 ∷ 7 ∷ 12 ∷ 55 ∷ 62 ∷ 71 ∷ 88 ∷ []) ++
    stopping 1 twice some_fields 0 (7 ∷ 12 ∷ 55 ∷ 62 ∷ 71 ∷ 88 ∷ 94 ∷ []) ++
    -- each a byte longer, and a byte shorter
    stopping 1 longer some_fields 0 (0 ∷ 7 ∷ 12 ∷ 55 ∷ 62 ∷ 71 ∷ 88 ∷ 94 ∷ 118 ∷ 142 ∷ []) ++
    stopping 1 shorter some_fields 0 (0 ∷ 7 ∷ 12 ∷ 55 ∷ 62 ∷ 71 ∷ 88 ∷ 94 ∷ 118 ∷ 142 ∷ []) ++
    -- the two lists of factors of 0, 3 and 18 bytes, and of 2 and 16
    stopping 1 (sized 0) some_fields 3 (55 ∷ 62 ∷ []) ++
    stopping 1 (sized 3) some_fields 3 (55 ∷ 62 ∷ []) ++
    stopping 1 (sized 18) some_fields 3 (55 ∷ 62 ∷ []) ++
    (sized 2 3 (sized 2 4 some_fields), Ok tt) ∷
    (sized 16 3 (sized 16 4 some_fields), Ok tt) ∷
    -- no zone, one, eight and nine
    (zones 0, stops 94) ∷
    (zones 1, Ok tt) ∷
    (zones 8, Ok tt) ∷
    (zones 9, stops 286) ∷
    []

-- Document 02, E6: the two forms, of a book whose zones start at 88. Both in one file stop at the second form that comes, neither at the place where the
-- first was due.
abbrev head : List (ℕ × List ℕ)
head = zeros ((1, 4) ∷ (2, 2) ∷ (3, 40) ∷ (4, 2) ∷ (5, 2) ∷ (6, 14) ∷ (7, 3) ∷ [])

abbrev narrow : ℕ × List ℕ
narrow = (8, replicate 21 0)

abbrev wide : ℕ × List ℕ
wide = (9, replicate 22 0)

-- the fields after 07
abbrev form_files : List (List (ℕ × List ℕ) × FileAnswer)
form_files =
    (narrow ∷ [], Ok tt) ∷
    (wide ∷ [], Ok tt) ∷
    (replicate 8 narrow, Ok tt) ∷
    (replicate 8 wide, Ok tt) ∷
    ([], stops 88) ∷
    (narrow ∷ wide ∷ [], stops 112) ∷
    (narrow ∷ wide ∷ narrow ∷ [], stops 112) ∷
    (narrow ∷ wide ∷ (10, 0 ∷ []) ∷ [], stops 112) ∷
    (wide ∷ narrow ∷ [], stops 113) ∷
    (wide ∷ wide ∷ narrow ∷ wide ∷ [], stops 138) ∷
    (replicate 8 narrow ++ (wide ∷ []), stops 280) ∷
    (replicate 8 wide ++ (narrow ∷ []), stops 288) ∷
    (replicate 9 narrow, stops 280) ∷
    (replicate 9 wide, stops 288) ∷
    ((255, 0 ∷ 0 ∷ []) ∷ [], stops 88) ∷
    ((10, 0 ∷ []) ∷ [], stops 88) ∷
    -- a field 09 of another length, and a field 08 of a field 09's
    ((9, replicate 21 0) ∷ [], stops 88) ∷
    ((9, replicate 23 0) ∷ [], stops 88) ∷
    ((8, replicate 22 0) ∷ [], stops 88) ∷
    (wide ∷ (9, replicate 21 0) ∷ [], stops 113) ∷
    []

pub form_files_stand : map (λ t. file_answer book_rows 1 (closed (head ++ t.0))) form_files ≡ map (λ t. t.1) form_files
unfolding flat_map number bytes_of check_from due_from all_had front_of walk_from
form_files_stand = refl

pub book_files_stand : map (λ t. file_answer book_rows 1 (closed t.0)) book_files ≡ map (λ t. t.1) book_files
unfolding flat_map number bytes_of check_from due_from all_had front_of walk_from
book_files_stand = refl
