-- The joining of a scheme's row by its cases, and the verdict by its own, in document 01's order of refusals: 10, 7, 6, 8, 9.
use Rattle.std.specs.Prelude.{ℕ, ◌+◌, ◌<◌, ◌≤◌, ◌≡◌, true, false, length, Err, Ok}
use borrow.Author.Tests.{le-leb, lt-leb, lt-ltb, le-ltb}
use Rattle.tagged.specs.File.{refusal}
use Rattle.tagged.specs.Refusals.{scheme_never_opened, month_before_last, no_scheme_left, no_entry_left, no_connection_left}
use Rattle.charge.specs.declared.Bill.{Bill}
use Rattle.ledger.specs.Limits.{most_connections}
use Rattle.ledger.specs.Books.{SchemeParticulars, Books}
use Rattle.calls.specs.Rules.{parties_of, capacity_of, contribution}
use Rattle.calls.specs.Verdict.{joining_of, course_of, entries_needed, schemes_lacking, entries_lacking, course_verdict, verdict}
use Rattle.calls.specs.declared.courses.Joining.TheVariants.{Ended, Small, Pays}
use Rattle.calls.specs.declared.courses.Course.{Course}

module _ (books : Books) (bill : Bill) (row : SchemeParticulars) where
  pub joining_ended : row.opening + row.term ≤ bill.applicant.month → joining_of books bill row ≡ Ended
  joining_ended late = rw (le-leb _ _ late)

  module _ {K G : ℕ} (in_force : bill.applicant.month < row.opening + row.term) (earlier : capacity_of (parties_of bill.applicant.scheme books) ≡ K)
      (due : G ≡ contribution row.cost bill.applicant.capacity K) where
    pub joining_small : G < row.minimum → joining_of books bill row ≡ Small
    joining_small below = rw (lt-leb _ _ in_force, earlier, ← due, lt-ltb _ _ below)

    pub joining_pays : row.minimum ≤ G → joining_of books bill row ≡ Pays (record { collected = G; fee = row.fee; capacity = K })
    joining_pays enough = rw (lt-leb _ _ in_force, earlier, ← due, le-ltb _ _ enough)

module _ (books : Books) (bill : Bill) where
  pub verdict_refused_10 : most_connections ≤ books.connections → verdict books bill ≡ Err (refusal no_connection_left 0 0)
  unfolding verdict
  verdict_refused_10 taken = rw (le-leb _ _ taken)

  module _ (left : books.connections < most_connections) where
    pub verdict_refused_7 : bill.applicant.month < books.month → verdict books bill ≡ Err (refusal month_before_last 0 0)
    unfolding verdict
    verdict_refused_7 earlier = rw (lt-leb _ _ left, lt-ltb _ _ earlier)

    module _ (in_order : books.month ≤ bill.applicant.month) where
      pub verdict_refused_6 : books.next_scheme ≤ bill.applicant.scheme → verdict books bill ≡ Err (refusal scheme_never_opened 0 0)
      unfolding verdict
      verdict_refused_6 never = rw (lt-leb _ _ left, le-ltb _ _ in_order, le-leb _ _ never)

      pub verdict_course : bill.applicant.scheme < books.next_scheme → verdict books bill ≡ course_verdict books (course_of books bill)
      unfolding verdict
      verdict_course opened = rw (lt-leb _ _ left, le-ltb _ _ in_order, lt-leb _ _ opened)

module _ (books : Books) (course : Course) where
  pub course_refused_8 : schemes_lacking (length books.schemes) books.next_scheme course.opens ≡ true → course_verdict books course ≡ Err (refusal no_scheme_left 0 0)
  course_refused_8 all = rw all

  module _ (some : schemes_lacking (length books.schemes) books.next_scheme course.opens ≡ false) where
    pub course_refused_9 : entries_lacking (length books.entries) books.room (entries_needed course) ≡ true → course_verdict books course ≡ Err (refusal no_entry_left 0 0)
    course_refused_9 lacking = rw (some, lacking)

    pub course_accepted : entries_lacking (length books.entries) books.room (entries_needed course) ≡ false → course_verdict books course ≡ Ok course
    course_accepted enough = rw (some, enough)
