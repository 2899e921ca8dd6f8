-- Document 01, 'Tagged fields': "A field is a one-byte tag, a two-byte length, then the value. Every field listed occurs once, in rising
-- tag order, except where a count is given. Its permitted lengths stand in one constant table for each kind of file."
-- A kind of file is its rows; the walk is one definition over any rows. It sees the file without the last five bytes, the field FF.
-- A kind may have files of two forms: a row of one form permits its field in files of that form alone.
use Rattle.std.specs.Prelude.{ℕ, zero, suc, ◌+◌, ◌-◌, ◌%◌, List, [], ◌∷◌, map, Bool, true, false, length, take, drop, Some, None, Option, if◌then◌else◌, ◌==◌, nat_lt, nat_le, slice_index, slice_index_or}
use Rattle.numbers.specs.BigEndian.{number_at}
use Rattle.field_walk.specs.declared.walk.Front.{Front}
use Rattle.field_walk.specs.declared.walk.Front.TheVariants.{End, Field, CannotStand}

-- A row: tag, lowest, highest and step of length, how often at least and at most, and the form that it is of: 0 for both.
abbrev pub tag_of : List ℕ → ℕ
tag_of row = slice_index row 0

abbrev pub lowest_of : List ℕ → ℕ
lowest_of row = slice_index row 1

abbrev pub highest_of : List ℕ → ℕ
highest_of row = slice_index row 2

abbrev pub step_of : List ℕ → ℕ
step_of row = slice_index row 3

abbrev pub least_of : List ℕ → ℕ
least_of row = slice_index row 4

abbrev pub most_of : List ℕ → ℕ
most_of row = slice_index row 5

abbrev pub form_of : List ℕ → ℕ
form_of row = slice_index row 6

-- Document 02, E6: "A book may carry field 09 .. in place of every 08 .. A request may carry 0D .. in place of 04." What is carried in place of another
-- is the file's second form.
abbrev pub first_form : ℕ
first_form = 1

abbrev pub second_form : ℕ
second_form = 2

-- what both forms have
abbrev pub neither_form : ℕ
neither_form = 0

abbrev pub in_form : ℕ → List ℕ → Bool
in_form form row = if form_of row == 0 then true else form_of row == form

-- a row in files of a form: a row of the other form permits no field
abbrev pub row_in : ℕ → List ℕ → List ℕ
row_in form row = if in_form form row then row else tag_of row ∷ lowest_of row ∷ highest_of row ∷ step_of row ∷ 0 ∷ 0 ∷ []

abbrev pub rows_in : ℕ → List (List ℕ) → List (List ℕ)
rows_in form rows = map (row_in form) rows

-- the row that a field counts to, and how many fields of that row have then come
abbrev pub Due : Type 0
Due = Option (ℕ × ℕ)

-- the row, at or after row k, that a field with this tag counts to, where n fields of row k have come
unfoldable pub due_from : List (List ℕ) → ℕ → ℕ → ℕ → Due
due_from [] k n tag = None
due_from (row ∷ rows) k n tag =
    if tag_of row == tag then (if nat_lt n (most_of row) then Some (k, n + 1) else None)
    else if nat_lt n (least_of row) then None else due_from rows (k + 1) 0 tag

-- no field is due any more, where n fields of the first row have come
unfoldable pub all_had : List (List ℕ) → ℕ → Bool
all_had [] n = true
all_had (row ∷ rows) n = if nat_lt n (least_of row) then false else all_had rows 0

abbrev pub permitted_by : List ℕ → ℕ → Bool
permitted_by row len =
    if nat_lt len (lowest_of row) then false
    else if nat_lt (highest_of row) len then false
    else if step_of row == 0 then false else (len - lowest_of row) % step_of row == 0

-- the length that the second and third byte of a field give
abbrev pub length_at : List ℕ → ℕ
length_at s = number_at s 1 2

-- a field whose row is due also has a permitted length and ends within the rest s
abbrev pub field_of : Due → List (List ℕ) → List ℕ → Front
field_of None rows s = CannotStand
field_of (Some (k, n)) rows s =
    if permitted_by (slice_index_or rows k []) (length_at s) then
    (if nat_le (length_at s + 3) (length s) then Field k n (length_at s) else CannotStand)
    else CannotStand

-- what the rest s of the file starts with, where n fields of row k have come
unfoldable pub front_of : List (List ℕ) → ℕ → ℕ → List ℕ → Front
front_of rows k n s =
    if length s == 0 then (if all_had (drop k rows) n then End else CannotStand)
    else if nat_lt (length s) 3 then CannotStand
    else field_of (due_from (drop k rows) k n (slice_index s 0)) rows s

-- A field of a file: its tag, the offset of its value, and the value's length.
pub record FieldAt : Type 0 where
  pub tag : ℕ
  pub start : ℕ
  pub len : ℕ

-- that very part of the file
abbrev pub value_of : List ℕ → FieldAt → List ℕ
value_of s f = take f.len (drop f.start s)

-- The walk's result: the fields, or the offset of the first field that can't stand there.
pub data Walk : Type 0 where
  fields : List FieldAt → Walk
  stops : ℕ → Walk

abbrev pub and_then : FieldAt → Walk → Walk
and_then f (fields fs) = fields (f ∷ fs)
and_then f (stops at) = stops at

-- by what stands at the front, at the offset `at` of the file
abbrev pub on_front : Front → ℕ → (ℕ → ℕ → ℕ → Walk) → Walk
on_front End at next = fields []
on_front (Field k n len) at next = next k n len
on_front CannotStand at next = stops at

-- "The walk goes on with the rest of the file after the field." `most` bounds the number of fields.
unfoldable pub walk_from : ℕ → List (List ℕ) → ℕ → ℕ → ℕ → List ℕ → Walk
walk_from zero rows k n at s = stops at
walk_from (suc most) rows k n at s =
    on_front (front_of rows k n s) at
    (λ k' n' len.
    and_then (record { tag = slice_index s 0; start = at + 3; len = len })
    (walk_from most rows k' n' (at + (len + 3)) (drop (len + 3) s)))

-- by the rows of one form
abbrev pub walk_by : List (List ℕ) → List ℕ → Walk
walk_by rows s = walk_from (length s + 1) rows 0 0 0 s

-- A file walks by its first form or by its second. "(Both forms in one file, or neither, is 1, at the second form or at the place where the first was due if
-- the rest walks.)" Otherwise a field can stand as long as a file of either form can begin so: the further of the two places.
abbrev pub by_forms : Walk → Walk → Walk → Walk
by_forms (fields fs) second neither = fields fs
by_forms (stops at) (fields fs) neither = fields fs
by_forms (stops at) (stops at') (fields fs) = stops at
by_forms (stops at) (stops at') (stops _) = stops (if nat_lt at at' then at' else at)

abbrev pub walk : List (List ℕ) → List ℕ → Walk
walk rows s = by_forms (walk_by (rows_in first_form rows) s) (walk_by (rows_in second_form rows) s) (walk_by (rows_in neither_form rows) s)
