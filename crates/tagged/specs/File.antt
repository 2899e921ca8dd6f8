-- Document 01, 'How calls end': "Order for a file: 1 for its last five bytes, 2, 1 for the rest". The rest, 3, is each reader's.
use Rattle.std.specs.Prelude.{ℕ, ◌-◌, List, Bool, false, length, take, Err, Ok, Result, if◌then◌else◌, ◌==◌, nat_lt, slice_index}
use Rattle.std.specs.Result.{result_and}
use Rattle.numbers.specs.BigEndian.{number, number_at}
use Rattle.numbers.specs.Check.{check}
use Rattle.field_walk.specs.Walk.{Walk, walk, fields, stops}
use Rattle.tagged.specs.Refusals.{file_does_not_walk, check_differs}
use Rattle.tagged.specs.declared.file.Refusal.{Refusal}

-- a file stands, or is refused
abbrev pub FileAnswer : Type 0
FileAnswer = Result (Unit {0}) Refusal

-- the answer alone of what is read of a file
abbrev pub answer_of : {Values : Type 0} → Result Values Refusal → FileAnswer
answer_of (Ok values) = Ok tt
answer_of (Err r) = Err r

-- the `?` of the code: the next step, where this one has a value
infixl 10 ◌>>=◌
abbrev pub ◌>>=◌ : {A B : Type 0} → Result A Refusal → (A → Result B Refusal) → Result B Refusal
Ok value >>= next = next value
Err r >>= next = Err r

-- "The last field is FF, length 2: the check."
abbrev pub tail_stands : List ℕ → Bool
tail_stands s =
    if nat_lt (length s) 5 then false
    else if slice_index s (length s - 5) == 255 then
    (if slice_index s (length s - 4) == 0 then slice_index s (length s - 3) == 2 else false)
    else false

-- "It is h over all bytes of the file but the last two."
abbrev pub check_stands : List ℕ → Bool
check_stands s = number_at s (length s - 2) 2 == check (take (length s - 2) s)

-- the fields before the check
abbrev pub fields_part : List ℕ → List ℕ
fields_part s = take (length s - 5) s

-- number, file and place of a refusal
abbrev pub refusal : ℕ → ℕ → ℕ → Refusal
refusal number file place = record { number = number; file = file; place = place }

-- 1 for its last five bytes, then 2
abbrev pub closing_answer : ℕ → List ℕ → FileAnswer
closing_answer file s =
    if tail_stands s then
    (if check_stands s then Ok tt else Err (refusal check_differs file (length s - 2)))
    else Err (refusal file_does_not_walk file 0)

-- 1 for the rest: the offset of the first field that can't stand there
abbrev pub of_walk : ℕ → Walk → FileAnswer
of_walk file (fields fs) = Ok tt
of_walk file (stops at) = Err (refusal file_does_not_walk file at)

-- a file's answer by how its fields walk, whatever its kind
abbrev pub answer_by_walk : ℕ → List ℕ → Walk → FileAnswer
answer_by_walk file s walked = result_and (closing_answer file s) (of_walk file walked)

-- of a kind by rows
abbrev pub file_answer : List (List ℕ) → ℕ → List ℕ → FileAnswer
file_answer rows file s = answer_by_walk file s (walk rows (fields_part s))
