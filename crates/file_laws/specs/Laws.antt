-- The laws that the functions of src/ are there for, one statement each; the proofs stand beside the definitions that they are of.
use Rattle.std.specs.Prelude.{ℕ, ◌+◌, ◌-◌, ◌^◌, ◌<◌, ◌≤◌, ◌≡◌, ◌⊎◌, true, length, set, Err, Ok, slice_index, slice_index_or}
use mathlib.Core.List.{List, [], ◌∷◌, ◌++◌}
use Rattle.numbers.specs.BigEndian.{Bytes, number, number_at, bytes_of}
use Rattle.numbers.specs.Written.{written}
use Rattle.numbers.specs.Check.{check_from}
use Rattle.field_walk.specs.Walk.{least_of, FieldAt, Walk, fields, first_form, second_form, neither_form, row_in, rows_in, walk_by, walk}
use Rattle.field_walk.specs.FieldsWalk.{FieldsWalk}
use Rattle.tagged.specs.Refusals.{file_does_not_walk, check_differs}
use Rattle.tagged.specs.File.{tail_stands, check_stands, answer_of, fields_part, refusal, answer_by_walk, file_answer, FileAnswer}
use Rattle.tagged.specs.Find.{fields_of, first_with, first_place, field_start}
use Rattle.tagged.specs.Encoded.{encoded_parts}
use Rattle.tagged.specs.RisingTags.{rising_tags}
use Rattle.tagged.specs.WalkRelations.{Stand, Fields}
use Rattle.tagged.specs.WalkEncoded.{Short, places_from, parts_of}
use Rattle.tagged.specs.FoundFields.{Next, Found}
use Rattle.tagged.specs.Sized.{Sized}
use Rattle.tagged.specs.FileStands.{FileStands}
use Rattle.tagged.specs.FileEnding.{file_ending}
use Rattle.tagged.specs.EndingTests.{Numbered}
use Rattle.book_zones.specs.BookRows.{book_rows}
use Rattle.book_zones.specs.Zones.{zone_rates}
use Rattle.book_zones.specs.ZoneLimits.{RatesWithin}
use Rattle.rate_book.specs.Book.{book_of}
use Rattle.rate_book.specs.BookSizes.{BookSizes}
use Rattle.rate_book.specs.BookLimits.{BookWithin}
use Rattle.rate_book.specs.declared.book.Book.{Book}
use Rattle.field_values.specs.Judged.{in_order, Judged}
use Rattle.field_values.specs.Limits.{special_pricing}
use Rattle.request.specs.RequestRows.{request_rows}
use Rattle.request.specs.Request.{request_of}
use Rattle.request.specs.RequestSizes.{RequestSizes}
use Rattle.request.specs.RequestLimits.{RequestWithin}
use Rattle.request.specs.declared.values.Request.{Request}

-- ---- numbers and the check

-- reading what was written gives the number
abbrev pub NumberReadsBack : Type 0
NumberReadsBack = (width n : ℕ) → n < 256 ^ width → number (bytes_of width n) ≡ n

-- and writing what was read leaves the bytes
abbrev pub BytesWriteBack : Type 0
BytesWriteBack = (s : List ℕ) → Bytes s → bytes_of (length s) (number s) ≡ s

-- the same at a place within the output: a number that was written there is the number there, and to write the number that is there changes nothing
abbrev pub NumberReadsBackAt : Type 0
NumberReadsBackAt = (out : List ℕ) (at width n : ℕ) → n < 256 ^ width → at + width ≤ length out → number_at (written out at (bytes_of width n)) at width ≡ n

abbrev pub BytesWriteBackAt : Type 0
BytesWriteBackAt = (out : List ℕ) (at width : ℕ) → Bytes out → at + width ≤ length out → written out at (bytes_of width (number_at out at width)) ≡ out

-- another byte in one place gives another check
abbrev pub CheckOfOneByte : Type 0
CheckOfOneByte = (h : ℕ) (s t : List ℕ) (a b : ℕ) → a < 256 → b < 256 → check_from h (s ++ a ∷ t) ≡ check_from h (s ++ b ∷ t) → a ≡ b

-- ---- the walk by any rows

-- the fields of a file that walks stand by the rows of one form
abbrev pub WalkStands : Type 0
WalkStands =
    (rows : List (List ℕ)) (s : List ℕ) (fs : List FieldAt) → walk rows s ≡ fields fs → Stand (rows_in first_form rows) 0 fs ⊎ Stand (rows_in second_form rows) 0 fs

-- they follow one another to the end of the file
abbrev pub WalkFields : Type 0
WalkFields = (rows : List (List ℕ)) (s : List ℕ) (fs : List FieldAt) → walk rows s ≡ fields fs → Fields s 0 fs

-- which is the concatenation of them
abbrev pub WalkTiles : Type 0
WalkTiles = (rows : List (List ℕ)) (s : List ℕ) (fs : List FieldAt) → walk rows s ≡ fields fs → Bytes s → s ≡ encoded_parts (parts_of s fs)

-- the finder goes over exactly these
abbrev pub FinderGoesOver : Type 0
FinderGoesOver = (rows : List (List ℕ)) (s : List ℕ) (fs : List FieldAt) → walk rows s ≡ fields fs → fields_of s ≡ fs

abbrev pub FinderFinds : Type 0
FinderFinds = (rows : List (List ℕ)) (s : List ℕ) (fs : List FieldAt) → walk rows s ≡ fields fs → (tag : ℕ) → first_place tag s ≡ first_with tag fs

-- who goes on from field to field sees the next of them with its value and the rest of the file after it, and none at the file's end
abbrev pub NextSeen : Type 0
NextSeen = (s : List ℕ) (at : ℕ) (f : FieldAt) (others : List FieldAt) → Fields s at (f ∷ others) → Next s at f others

abbrev pub NoneAtTheEnd : Type 0
NoneAtTheEnd = (s : List ℕ) (at : ℕ) (fs : List FieldAt) → Fields s at fs → length s ≤ at → fs ≡ []

-- a field that must be there is found inside the file, and its value has a permitted length
abbrev pub FindsDue : Type 0
FindsDue =
    (rows : List (List ℕ)) (s : List ℕ) (fs : List FieldAt) → rising_tags rows ≡ true → (k : ℕ) → k < length rows →
    1 ≤ least_of (row_in neither_form (slice_index_or rows k [])) → walk rows s ≡ fields fs → Found (slice_index_or rows k []) s

abbrev pub DueSized : Type 0
DueSized =
    (rows : List (List ℕ)) (s : List ℕ) → rising_tags rows ≡ true → FieldsWalk rows s → (k : ℕ) → k < length rows →
    1 ≤ least_of (row_in neither_form (slice_index_or rows k [])) → Sized (slice_index_or rows k []) s

-- fields that stand by the rows walk as themselves when they are written one after the other
abbrev pub WalkOfEncoded : Type 0
WalkOfEncoded =
    (rows : List (List ℕ)) (parts : List (ℕ × List ℕ)) → rising_tags rows ≡ true → Stand rows 0 (places_from 0 parts) → Short (places_from 0 parts) →
    walk_by rows (encoded_parts parts) ≡ fields (places_from 0 parts)

-- with the values that were written
abbrev pub PartsOfEncoded : Type 0
PartsOfEncoded = (parts : List (ℕ × List ℕ)) → parts_of (encoded_parts parts) (places_from 0 parts) ≡ parts

-- what a file that stands is
abbrev pub StandsMeans : Type 0
StandsMeans = (rows : List (List ℕ)) (file : ℕ) (s : List ℕ) → file_answer rows file s ≡ Ok tt → FileStands rows s

-- two answers never end alike
abbrev pub FileAnswerByEnding : Type 0
FileAnswerByEnding = (answer other : FileAnswer) → Numbered answer → Numbered other → file_ending answer ≡ file_ending other → answer ≡ other

-- values judged one after the other answer alike where each of them does
abbrev pub JudgedAlike : Type 0
JudgedAlike = (judged first second first' second' : Judged) → judged ≡ in_order first second → first ≡ first' → second ≡ second' → judged ≡ in_order first' second'

-- ---- both forms in one file, or neither

-- a file with every field of both forms is refused with 1, at the second form
abbrev pub BothInABook : Type 0
BothInABook =
    (number : ℕ) (file : List ℕ) (fs : List FieldAt) → tail_stands file ≡ true → check_stands file ≡ true → Fields (fields_part file) 0 fs → Stand book_rows 0 fs →
    file_answer book_rows number file ≡ Err (refusal file_does_not_walk number (field_start 9 (fields_part file) - 3))

abbrev pub BothInARequest : Type 0
BothInARequest =
    (number : ℕ) (file : List ℕ) (fs : List FieldAt) → tail_stands file ≡ true → check_stands file ≡ true → Fields (fields_part file) 0 fs → Stand request_rows 0 fs →
    file_answer request_rows number file ≡ Err (refusal file_does_not_walk number (field_start 13 (fields_part file) - 3))

-- one whose fields stand but for those of either form, where the first form was due: a book at its end, a request at 05
abbrev pub NeitherInABook : Type 0
NeitherInABook =
    (number : ℕ) (file : List ℕ) (fs : List FieldAt) → tail_stands file ≡ true → check_stands file ≡ true → Fields (fields_part file) 0 fs →
    Stand (rows_in neither_form book_rows) 0 fs → file_answer book_rows number file ≡ Err (refusal file_does_not_walk number (length (fields_part file)))

abbrev pub NeitherInARequest : Type 0
NeitherInARequest =
    (number : ℕ) (file : List ℕ) (fs : List FieldAt) → tail_stands file ≡ true → check_stands file ≡ true → Fields (fields_part file) 0 fs →
    Stand (rows_in neither_form request_rows) 0 fs → file_answer request_rows number file ≡ Err (refusal file_does_not_walk number (field_start 5 (fields_part file) - 3))

-- ---- one byte of a file is another byte

-- whatever its kind: however the fields of the two files walk
abbrev pub AlteredRefused : Type 0
AlteredRefused =
    (file : ℕ) (walked other_walked : Walk) (s : List ℕ) (i b : ℕ) → Bytes s → i < length s → b < 256 → (slice_index s i ≡ b → ⊥) → answer_by_walk file s walked ≡ Ok tt →
    (answer_by_walk file (set s i b) other_walked ≡ Err (refusal file_does_not_walk file 0)) ⊎
    (answer_by_walk file (set s i b) other_walked ≡ Err (refusal check_differs file (length s - 2)))

abbrev pub AlteredFileRefused : Type 0
AlteredFileRefused =
    (rows : List (List ℕ)) (file : ℕ) (s : List ℕ) (i b : ℕ) → Bytes s → i < length s → b < 256 → (slice_index s i ≡ b → ⊥) → file_answer rows file s ≡ Ok tt →
    (file_answer rows file (set s i b) ≡ Err (refusal file_does_not_walk file 0)) ⊎ (file_answer rows file (set s i b) ≡ Err (refusal check_differs file (length s - 2)))

abbrev pub AlteredBookRefused : Type 0
AlteredBookRefused =
    (number : ℕ) (file : List ℕ) (i b : ℕ) → answer_of (book_of number file) ≡ Ok tt → Bytes file → i < length file → b < 256 → (slice_index file i ≡ b → ⊥) →
    (book_of number (set file i b) ≡ Err (refusal file_does_not_walk number 0)) ⊎ (book_of number (set file i b) ≡ Err (refusal check_differs number (length file - 2)))

abbrev pub AlteredRequestRefused : Type 0
AlteredRequestRefused =
    (number : ℕ) (file : List ℕ) (i b : ℕ) → Bytes file → i < length file → b < 256 → (slice_index file i ≡ b → ⊥) → answer_of (request_of number file) ≡ Ok tt →
    (request_of number (set file i b) ≡ Err (refusal file_does_not_walk number 0)) ⊎ (request_of number (set file i b) ≡ Err (refusal check_differs number (length file - 2)))

-- ---- what is accepted

-- values have document 01's lengths
abbrev pub AcceptedBookSizes : Type 0
AcceptedBookSizes = (number : ℕ) (file : List ℕ) → answer_of (book_of number file) ≡ Ok tt → BookSizes (fields_part file)

abbrev pub AcceptedRequestSizes : Type 0
AcceptedRequestSizes = (number : ℕ) (file : List ℕ) → answer_of (request_of number file) ≡ Ok tt → RequestSizes (fields_part file)

-- and lie within its limits
abbrev pub BookWithinLimits : Type 0
BookWithinLimits = (number : ℕ) (file : List ℕ) (book : Book) → book_of number file ≡ Ok book → Bytes file → BookWithin book

abbrev pub RatesWithinLimits : Type 0
RatesWithinLimits = (number : ℕ) (file : List ℕ) (book : Book) → book_of number file ≡ Ok book → RatesWithin (zone_rates (fields_part file)) book.zones

abbrev pub RequestWithinLimits : Type 0
RequestWithinLimits = (number : ℕ) (file : List ℕ) (request : Request) → Bytes file → request_of number file ≡ Ok request → RequestWithin request

-- an operating loading has special pricing
abbrev pub LoadingIsSpecial : Type 0
LoadingIsSpecial =
    (number : ℕ) (file : List ℕ) (request : Request) → Bytes file → request_of number file ≡ Ok request → 0 < request.ol → request.class ≡ special_pricing
