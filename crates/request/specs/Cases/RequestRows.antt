-- Requests with one field altered, left out, doubled or of another length, and how each file stands by the rows.
use Rattle.std.specs.Prelude.{ℕ, ◌≡◌, refl, true, Err, Ok}
use mathlib.Core.List.{List, [], ◌∷◌, ◌++◌, map, flat_map}
use Rattle.numbers.specs.BigEndian.{number, bytes_of}
use Rattle.numbers.specs.Check.{check_from}
use Rattle.field_walk.specs.Walk.{due_from, all_had, front_of, walk_from}
use Rattle.tagged.specs.File.{file_answer, refusal, FileAnswer}
use Rattle.tagged.specs.Cases.AlteredFields.{zeros, without, twice, longer, shorter, sized, stopping}
use Rattle.tagged.specs.Encoded.{closed}
use Rattle.tagged.specs.RisingTags.{rising_tags}
use Rattle.request.specs.RequestRows.{request_rows}

-- "in rising tag order"
pub request_rows_rise : rising_tags request_rows ≡ true
request_rows_rise = refl

-- For a table of files: a request's fields, with lists of one, two and three factors. Each row gives the offset of the field that can't stand.
abbrev some_fields : List (ℕ × List ℕ)
some_fields =
    zeros
    ((1, 4) ∷ (2, 4) ∷ (3, 1) ∷ (4, 1) ∷ (5, 24) ∷ (6, 45) ∷ (7, 20) ∷ (8, 8) ∷ (9, 2) ∷ (10, 4) ∷ (11, 6) ∷ (12, 9) ∷ [])

abbrev request_files : List (List (ℕ × List ℕ) × FileAnswer)
request_files =
    (some_fields, Ok tt) ∷
    -- each field left out, and twice
    stopping 2 without some_fields 0 (0 ∷ 7 ∷ 14 ∷ 18 ∷ 22 ∷ 49 ∷ 97 ∷ 120 ∷ 131 ∷ 136 ∷ 143 ∷ 152 ∷ []) ++
    stopping 2 twice some_fields 0 (7 ∷ 14 ∷ 18 ∷ 22 ∷ 49 ∷ 97 ∷ 120 ∷ 131 ∷ 136 ∷ 143 ∷ 152 ∷ 164 ∷ []) ++
    -- each a byte longer, and a byte shorter
    stopping 2 longer some_fields 0 (0 ∷ 7 ∷ 14 ∷ 18 ∷ 22 ∷ 49 ∷ 97 ∷ 120 ∷ 131 ∷ 136 ∷ 143 ∷ 152 ∷ []) ++
    stopping 2 shorter some_fields 0 (0 ∷ 7 ∷ 14 ∷ 18 ∷ 22 ∷ 49 ∷ 97 ∷ 120 ∷ 131 ∷ 136 ∷ 143 ∷ 152 ∷ []) ++
    -- the three lists of factors of 0, 3 and 18 bytes, and of 2 and 16
    stopping 2 (sized 0) some_fields 8 (131 ∷ 136 ∷ 143 ∷ []) ++
    stopping 2 (sized 3) some_fields 8 (131 ∷ 136 ∷ 143 ∷ []) ++
    stopping 2 (sized 18) some_fields 8 (131 ∷ 136 ∷ 143 ∷ []) ++
    (sized 2 8 (sized 2 9 (sized 2 10 some_fields)), Ok tt) ∷
    (sized 16 8 (sized 16 9 (sized 16 10 some_fields)), Ok tt) ∷
    []

-- Document 02, E6: the two forms, of a request of the slip's lengths, in which 04 stands at 18. Both in one file stop at the second form that comes; neither,
-- at another field that can't stand, and otherwise where 04 was due.
abbrev head : List (ℕ × List ℕ)
head = zeros ((1, 4) ∷ (2, 4) ∷ (3, 1) ∷ [])

abbrev zone : List (ℕ × List ℕ)
zone = zeros ((4, 1) ∷ [])

abbrev wide_zone : List (ℕ × List ℕ)
wide_zone = zeros ((13, 2) ∷ [])

abbrev amounts : List (ℕ × List ℕ)
amounts = zeros ((5, 24) ∷ [])

abbrev usage : List (ℕ × List ℕ)
usage = zeros ((6, 45) ∷ (7, 20) ∷ (8, 8) ∷ (9, 4) ∷ (10, 2) ∷ (11, 2) ∷ [])

abbrev connection : List (ℕ × List ℕ)
connection = zeros ((12, 9) ∷ [])

abbrev rest : List (ℕ × List ℕ)
rest = amounts ++ (usage ++ connection)

abbrev stops : ℕ → FileAnswer
stops place = Err (refusal 1 2 place)

-- the fields after 03
abbrev form_files : List (List (ℕ × List ℕ) × FileAnswer)
form_files =
    (zone ++ rest, Ok tt) ∷
    (rest ++ wide_zone, Ok tt) ∷
    -- neither; neither and 05 missing too
    (rest, stops 18) ∷
    (usage ++ connection, stops 18) ∷
    -- both; after 04, 0D of length 1; 0D twice after 04
    (zone ++ (rest ++ wide_zone), stops 160) ∷
    (zone ++ (rest ++ zeros ((13, 1) ∷ [])), stops 160) ∷
    (zone ++ (rest ++ (wide_zone ++ wide_zone)), stops 160) ∷
    -- 0D where 04 was
    (wide_zone ++ rest, stops 18) ∷
    -- 04 after 05; neither, and 06 of length 46
    (amounts ++ (zone ++ (usage ++ connection)), stops 45) ∷
    (amounts ++ (longer 0 usage ++ connection), stops 45) ∷
    -- 0D twice; 0D, then 04
    (rest ++ (wide_zone ++ wide_zone), stops 161) ∷
    (rest ++ (wide_zone ++ zone), stops 161) ∷
    -- neither, and a field 0E, or an early FF; 0D of length 1 or 3 without 04; 04 at the end
    (rest ++ zeros ((14, 1) ∷ []), stops 156) ∷
    (rest ++ zeros ((255, 2) ∷ []), stops 156) ∷
    (rest ++ zeros ((13, 1) ∷ []), stops 156) ∷
    (rest ++ zeros ((13, 3) ∷ []), stops 156) ∷
    (rest ++ zone, stops 156) ∷
    -- neither, and 0C missing; 0D before 0C
    (amounts ++ usage, stops 144) ∷
    (amounts ++ (usage ++ (wide_zone ++ connection)), stops 144) ∷
    -- both, without 0C
    (zone ++ (amounts ++ (usage ++ wide_zone)), stops 148) ∷
    []

pub form_files_stand : map (λ t. file_answer request_rows 2 (closed (head ++ t.0))) form_files ≡ map (λ t. t.1) form_files
unfolding flat_map number bytes_of check_from due_from all_had front_of walk_from
form_files_stand = refl

pub request_files_stand : map (λ t. file_answer request_rows 2 (closed t.0)) request_files ≡ map (λ t. t.1) request_files
unfolding flat_map number bytes_of check_from due_from all_had front_of walk_from
request_files_stand = refl
