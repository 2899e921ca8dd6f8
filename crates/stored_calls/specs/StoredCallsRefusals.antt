-- A request that comes as far as 9.
use Rattle.std.specs.Prelude.{◌<◌, ◌≤◌, ◌≡◌, false, length}
use Rattle.charge.specs.declared.Bill.{Bill}
use Rattle.ledger.specs.Limits.{most_connections}
use Rattle.ledger.specs.Books.{Books}
use Rattle.calls.specs.Verdict.{course_of, schemes_lacking, entries_needed}

-- ---- 9, where an entry is needed and the table has none left

-- a request that comes as far as 9: neither 10, 7, 6 nor 8, and an entry is needed
pub record EntryNeeded (books : Books) (bill : Bill) : Type 0 where
  pub connections : books.connections < most_connections
  pub month : books.month ≤ bill.applicant.month
  pub opened : bill.applicant.scheme < books.next_scheme
  pub place_left : schemes_lacking (length books.schemes) books.next_scheme (course_of books bill).opens ≡ false
  pub needed : 1 ≤ entries_needed (course_of books bill)
