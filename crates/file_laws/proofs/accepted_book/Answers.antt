-- The limits of an accepted book are a theorem over the book that is read.
use Rattle.rate_book.proofs.Theorems.BookLimits.{book_within_limits}
use Rattle.file_laws.proofs.accepted_book.Goals as goal

pub returns-clause-limits : goal.returns-clause-limits
returns-clause-limits c = λ number file book read. book_within_limits number file {book = book} read
