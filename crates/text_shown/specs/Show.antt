-- Showing a file: of a book or request that stands its text; of any other its refusal. An output shorter than any text may be is 14.
use Rattle.std.specs.Prelude.{ℕ, List, [], ◌∷◌, ◌++◌, Bool, cond, not, ◌&&◌, ◌||◌, length, drop, ltb, eqb, Err, Ok, Result}
use Rattle.std.specs.List.{starts_with}
use Rattle.tagged.specs.File.{refusal, fields_part, answer_of, FileAnswer}
use Rattle.tagged.specs.Refusals.{value_not_listed, output_too_short}
use Rattle.tagged.specs.declared.file.Refusal.{Refusal}
use Rattle.rate_book.specs.Book.{book_of}
use Rattle.request.specs.Request.{request_of}
use Rattle.text_names.specs.declared.table.Kind.{Kind}
use Rattle.text_names.specs.declared.table.Kind.TheVariants.{Book, Request}
use Rattle.text_shown.specs.Lines.{file_text}
use Rattle.text_shown.specs.Template.{template_fields}

-- the length of a text, or the refusal
abbrev pub TextWritten : Type 0
TextWritten = Result ℕ Refusal

-- no text of a file is longer
abbrev pub longest_text : ℕ
longest_text = 9216

-- a text at the start of a lent output, and its length; refused where the output is shorter than any text may be, and the output as it was
abbrev pub text_written : List ℕ → List ℕ → TextWritten
text_written text out = cond (ltb (length out) longest_text) (Err (refusal output_too_short 0 0)) (Ok (length text))

abbrev pub text_output : List ℕ → List ℕ → List ℕ
text_output text out = cond (ltb (length out) longest_text) out (text ++ drop (length text) out)

-- ---- the template
abbrev pub template_text : Kind → List ℕ
template_text kind = file_text kind (template_fields kind)

-- ---- which kind a file is shown as: by its letters; of others the one whose fields it follows further
-- field 01 with the letters RATE, or with CONN
abbrev pub is_rated : List ℕ → Bool
is_rated file = starts_with eqb file (1 ∷ 0 ∷ 4 ∷ 82 ∷ 65 ∷ 84 ∷ 69 ∷ [])

abbrev pub is_connected : List ℕ → Bool
is_connected file = starts_with eqb file (1 ∷ 0 ∷ 4 ∷ 67 ∷ 79 ∷ 78 ∷ 78 ∷ [])

-- a request's refusal comes after a book's: of its values, or at a later place
abbrev pub comes_after : Refusal → Refusal → Bool
comes_after of_request of_book =
    cond (eqb of_request.number value_not_listed)
    (not (eqb of_book.number value_not_listed) || ltb of_book.place of_request.place)
    (not (eqb of_book.number value_not_listed) && ltb of_book.place of_request.place)

abbrev pub kind_reached : FileAnswer → FileAnswer → Kind
kind_reached (Ok _) request = Book
kind_reached (Err b) (Ok _) = Request
kind_reached (Err b) (Err r) = cond (comes_after r b) Request Book

abbrev pub answer_as : Kind → List ℕ → FileAnswer
answer_as Book file = answer_of (book_of 1 file)
answer_as Request file = answer_of (request_of 2 file)

unfoldable pub kind_shown : List ℕ → Kind
kind_shown file = cond (is_rated file) Book (cond (is_connected file) Request (kind_reached (answer_as Book file) (answer_as Request file)))

-- ---- what is shown
abbrev pub shown_by : FileAnswer → List ℕ → List ℕ → TextWritten
shown_by (Err r) text out = Err r
shown_by (Ok _) text out = text_written text out

abbrev pub output_by : FileAnswer → List ℕ → List ℕ → List ℕ
output_by (Err r) text out = out
output_by (Ok _) text out = text_output text out

unfoldable pub show_written : List ℕ → List ℕ → TextWritten
show_written file out = shown_by (answer_as (kind_shown file) file) (file_text (kind_shown file) (fields_part file)) out

unfoldable pub show_output : List ℕ → List ℕ → List ℕ
show_output file out = output_by (answer_as (kind_shown file) file) (file_text (kind_shown file) (fields_part file)) out
