-- The one decision on a call, read off the books alone. The ledger carries it out, and the history of the calls records it.
use Rattle.std.specs.Prelude.{ℕ, ◌+◌, ◌-◌, List, [], map, filter, Bool, cond, ◌&&◌, leb, ltb, eqb, Err, None, Ok, Option, Some, Result}
use Rattle.std.specs.List.{list_all}
use Rattle.tagged.specs.File.{refusal}
use Rattle.tagged.specs.Refusals.{month_before_last, no_such_entry, pay_out_above_credit}
use Rattle.tagged.specs.declared.file.Refusal.{Refusal}
use Rattle.charge.specs.Price.{price_of, Pricing}
use Rattle.charge.specs.declared.Bill.{Bill}
use Rattle.ledger.specs.Books.{SchemeParticulars, EntryParticulars, Books, entry_at, of_scheme}
use Rattle.calls.specs.Rules.{Credit, parties_of, shared}
use Rattle.calls.specs.Verdict.{verdict, Verdict}
use Rattle.calls.specs.declared.courses.Joining.{Joining}
use Rattle.calls.specs.declared.courses.Joining.TheVariants.{NotAsked, Ended, Small, Pays}
use Rattle.calls.specs.declared.courses.Course.{Course}
use Rattle.calls.specs.declared.answers.Acceptance.{Acceptance}
use Rattle.calls.specs.declared.answers.JoiningAnswer.{JoiningAnswer}

-- Demand 3's calls.
pub data Call : Type 0 where
  -- book and request
  accept : List ℕ → List ℕ → Call
  -- entry and amount
  pay_out : ℕ → ℕ → Call
  -- entry and person
  hand_over : ℕ → ℕ → Call
  -- month
  clear : ℕ → Call

pub data Decision : Type 0 where
  -- the bill, its joining and its opening, and what a joining credits earlier entries
  accepted : Bill → Course → List Credit → Decision
  -- the entry's scheme, the entry, the amount
  paid_out : ℕ → ℕ → ℕ → Decision
  -- the entry, the person
  handed_over : ℕ → ℕ → Decision
  -- the month, and the numbers of the schemes that go
  cleared : ℕ → List ℕ → Decision
  refused : Refusal → Decision

-- ---- accept

-- what each earlier entry of the scheme is credited of G − fee
abbrev pub credits_by : Books → Bill → Joining → List Credit
credits_by books bill NotAsked = []
credits_by books bill Ended = []
credits_by books bill Small = []
credits_by books bill (Pays paid) = shared (paid.collected - paid.fee) (parties_of bill.applicant.scheme books)

abbrev pub decided_by : Books → Bill → Verdict → Decision
decided_by books bill (Ok course) = accepted bill course (credits_by books bill course.joining)
decided_by books bill (Err r) = refused r

-- book, request, 4, 5, and then by the verdict
abbrev pub accept_by : Books → Pricing → Decision
accept_by books (Ok bill) = decided_by books bill (verdict books bill)
accept_by books (Err r) = refused r

-- ---- pay-out and hand-over

-- "Pay-out names an entry and an amount up to its standing credit (credited − paid out); 0 is allowed."
abbrev pub pay_out_by : Option EntryParticulars → ℕ → Decision
pay_out_by None amount = refused (refusal no_such_entry 0 0)
pay_out_by (Some row) amount =
    cond (leb (row.paid_out + amount) row.credited) (paid_out row.scheme row.number amount) (refused (refusal pay_out_above_credit 0 0))

-- "Hand-over gives an entry another person number."
abbrev pub hand_over_by : Option EntryParticulars → ℕ → Decision
hand_over_by None person = refused (refusal no_such_entry 0 0)
hand_over_by (Some row) person = handed_over row.number person

-- ---- clearing

-- "removes every scheme ended by that month whose entries all have standing credit 0" (document 02, E8)
abbrev pub goes : Books → ℕ → SchemeParticulars → Bool
goes books month row =
    leb (row.opening + row.term) month && list_all (λ entry. eqb entry.credited entry.paid_out) (of_scheme row.number books.entries)

abbrev pub clear_by : Books → ℕ → Decision
clear_by books month =
    cond (ltb month books.month) (refused (refusal month_before_last 0 0))
    (cleared month (map (λ row. row.number) (filter (goes books month) books.schemes)))

abbrev pub decided : Books → Call → Decision
decided books (accept book request) = accept_by books (price_of book request)
decided books (pay_out e amount) = pay_out_by (entry_at books e) amount
decided books (hand_over e person) = hand_over_by (entry_at books e) person
decided books (clear month) = clear_by books month

-- ---- the answer to it

-- of every call
pub data CallAnswer : Type 0 where
  is_accepted : Acceptance → CallAnswer
  is_done : CallAnswer
  is_refused : Refusal → CallAnswer

-- accept's own answer, and that of the other calls
abbrev pub AcceptAnswer : Type 0
AcceptAnswer = Result Acceptance Refusal

abbrev pub Answer : Type 0
Answer = Result (Unit {0}) Refusal

abbrev pub of_accept : AcceptAnswer → CallAnswer
of_accept (Ok acceptance) = is_accepted acceptance
of_accept (Err r) = is_refused r

abbrev pub of_entry_call : Answer → CallAnswer
of_entry_call (Ok _) = is_done
of_entry_call (Err r) = is_refused r

-- "joined (entry number and G)"
abbrev pub joining_answer : Books → Joining → JoiningAnswer
joining_answer books NotAsked = JoiningAnswer.NotAsked
joining_answer books Ended = JoiningAnswer.Ended
joining_answer books Small = JoiningAnswer.Small
joining_answer books (Pays paid) = JoiningAnswer.Joined (record { entry = books.next_entry; contribution = paid.collected })

-- "opened (scheme number)"
abbrev pub opening_answer : Books → Course → Option ℕ
opening_answer books course = cond course.opens (Some books.next_scheme) None

abbrev pub acceptance_of : Books → Bill → Course → Acceptance
acceptance_of books bill course =
    record {
      reconciliation = bill.reconciliation;
      joining = joining_answer books course.joining;
      opening = opening_answer books course;
    }

abbrev pub answer_to : Books → Decision → CallAnswer
answer_to books (accepted bill course credits) = is_accepted (acceptance_of books bill course)
answer_to books (paid_out s e amount) = is_done
answer_to books (handed_over e person) = is_done
answer_to books (cleared month gone) = is_done
answer_to books (refused r) = is_refused r
