-- Document 01, 'How calls end', of a book: what decides its answer, and that a book with one byte altered is refused.
use Rattle.std.specs.Prelude.{ℕ, ◌-◌, ◌<◌, ◌≡◌, ◌⊎◌, List, length, get_or, set, Err, Ok}
use Rattle.std.proofs.Common.{sym, ◌∙◌, inl, inr, ⊎_elim}
use Rattle.numbers.specs.BigEndian.{Bytes}
use Rattle.field_walk.specs.FieldsWalk.{FieldsWalk}
use Rattle.tagged.specs.Refusals.{file_does_not_walk, check_differs, value_not_listed}
use Rattle.tagged.specs.File.{file_answer, answer_of, fields_part, refusal}
use Rattle.tagged.proofs.Theorems.File.{stands_means, RefusesTo}
use Rattle.tagged.proofs.Theorems.AlteredByte.{altered_file_refused}
use Rattle.tagged.specs.declared.file.Refusal.{Refusal}
use Rattle.field_values.specs.Reading.{reading_of}
use Rattle.field_values.proofs.Theorems.Reading.{reading_accepted, reading_refusal_numbers}
use Rattle.book_zones.specs.BookRows.{book_rows}
use Rattle.rate_book.specs.Book.{book_of, book_values, judge_book}
use Rattle.rate_book.specs.declared.book.Book.{Book}

module _ (number : ℕ) (file : List ℕ) where
  pub book_refused : (r : Refusal) → file_answer book_rows number file ≡ Err r → book_of number file ≡ Err r
  unfolding book_of
  book_refused r e = rw e

  pub book_refusal_numbers : RefusesTo value_not_listed number (answer_of (book_of number file))
  unfolding book_of
  book_refusal_numbers = reading_refusal_numbers number book_rows file (judge_book (fields_part file)) (book_values (fields_part file))

  module _ (stands : file_answer book_rows number file ≡ Ok tt) where
    pub book_judged : book_of number file ≡ reading_of number (Ok tt) (judge_book (fields_part file)) (book_values (fields_part file))
    unfolding book_of
    book_judged = rw stands

    pub book_walks : FieldsWalk book_rows (fields_part file)
    book_walks = let w = stands_means book_rows number file stands in (w.field_list, w.walks)

  module _ (accepted : answer_of (book_of number file) ≡ Ok tt) where
    -- A book that is accepted stands, and its values pass.
    accepted_both : (file_answer book_rows number file ≡ Ok tt) × (judge_book (fields_part file) ≡ Ok tt)
    unfolding book_of
    accepted_both = reading_accepted number (file_answer book_rows number file) (judge_book (fields_part file)) (book_values (fields_part file)) accepted

    pub accepted_stands : file_answer book_rows number file ≡ Ok tt
    accepted_stands = accepted_both.0

    pub accepted_passes : judge_book (fields_part file) ≡ Ok tt
    accepted_passes = accepted_both.1

    pub accepted_values : book_of number file ≡ Ok (book_values (fields_part file))
    accepted_values = rw (book_judged accepted_stands, accepted_passes)

  module _ {book : Book} (read : book_of number file ≡ Ok book) where
    pub read_is_accepted : answer_of (book_of number file) ≡ Ok tt
    read_is_accepted = rw read

    -- what was read is what the fields say
    pub book_is_values : book ≡ book_values (fields_part file)
    book_is_values = let both = sym read ∙ accepted_values read_is_accepted in cc

-- Exactly one byte altered, of a book that was accepted: 1 for its last five bytes, or 2.
pub altered_book_refused : (number : ℕ) (file : List ℕ) (i b : ℕ) → answer_of (book_of number file) ≡ Ok tt → Bytes file → i < length file → b < 256 →
    (get_or file i 0 ≡ b → ⊥) →
    (book_of number (set file i b) ≡ Err (refusal file_does_not_walk number 0)) ⊎ (book_of number (set file i b) ≡ Err (refusal check_differs number (length file - 2)))
altered_book_refused number file i b accepted bytes within below other =
    ⊎_elim (λ e. inl (book_refused number (set file i b) _ e)) (λ e. inr (book_refused number (set file i b) _ e))
    (altered_file_refused book_rows number file i b bytes within below other (accepted_stands number file accepted))
