-- Document 01, 'How calls end', for a caller that looks at the result: it is 0 exactly where the file stands, and otherwise has number 1, 2 or 3.
use Rattle.std.specs.Prelude.{ℕ, refl, List, Err, Ok}
use Rattle.tagged.specs.Refusals.{value_not_listed}
use Rattle.tagged.proofs.Theorems.File.{RefusesTo}
use Rattle.tagged.specs.File.{answer_of, FileAnswer}
use Rattle.rate_book.specs.Book.{book_of}
use Rattle.rate_book.proofs.Theorems.Book.{book_refusal_numbers}
use Rattle.request.specs.Request.{request_of}
use Rattle.request.proofs.Theorems.Request.{request_refusal_numbers}
use Rattle.ledger.proofs.Theorems.RefusalNumbers.{within_one_to}
use Rattle.quoting_unit.proofs.Theorems.UnitResults.{is_done, is_refused}
use Rattle.fikrem_c.specs.FileResult.{file_read_alone}
use Rattle.fikrem_c.specs.FileResults.{FileResults}

reading_results : (answer : FileAnswer) → RefusesTo value_not_listed file_read_alone answer → FileResults answer
reading_results (Ok _) h = is_done refl
reading_results (Err r) h = is_refused r 0 refl (λ d. cc d) (within_one_to value_not_listed r.number h.0 h.1)

pub book_read_alone : (book : List ℕ) → FileResults (answer_of (book_of file_read_alone book))
book_read_alone book = reading_results (answer_of (book_of file_read_alone book)) (book_refusal_numbers file_read_alone book)

pub request_read_alone : (request : List ℕ) → FileResults (answer_of (request_of file_read_alone request))
request_read_alone request = reading_results (answer_of (request_of file_read_alone request)) (request_refusal_numbers file_read_alone request)
