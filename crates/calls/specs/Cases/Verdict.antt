-- Accept's rules at their boundaries, over literal books: the verdict on a bill, each condition at its limit and one past it; what is credited, answered and
-- carried out of it. Every expected side is a literal.
use Rattle.std.specs.Prelude.{ℕ, suc, ◌+◌, ◌≡◌, refl, List, [], ◌∷◌, ◌++◌, map, true, false, take, length, replicate, Err, None, Ok, Some}
use Rattle.tagged.specs.File.{refusal}
use Rattle.reconciliation.specs.Reconciliation.{reconciliation_of}
use Rattle.reconciliation.specs.declared.Reconciliation.{Reconciliation}
use Rattle.rate_book.specs.declared.fields.Terms.{Terms}
use Rattle.charge.specs.declared.Applicant.{Applicant}
use Rattle.charge.specs.declared.Bill.{Bill}
use Rattle.ledger.specs.Records.{scheme_of, party_of, no_scheme, new_ledger}
use Rattle.ledger.specs.Books.{SchemeParticulars, EntryParticulars, Books}
use Rattle.ledger.specs.declared.records.Scheme.{Scheme}
use Rattle.ledger.specs.declared.records.Party.{Party}
use Rattle.ledger.specs.declared.records.Ledger.{Ledger}
use Rattle.calls.specs.Rules.{Credit}
use Rattle.calls.specs.Verdict.{verdict, Verdict}
use Rattle.calls.specs.Decision.{Decision, accepted, paid_out, handed_over, refused, decided_by, CallAnswer, is_refused, answer_to}
use Rattle.calls.specs.Carried.{State, carried_out}
use Rattle.calls.specs.Answers.{accepted_as, joined_as}
use Rattle.calls.specs.declared.courses.Joining.{Joining}
use Rattle.calls.specs.declared.courses.Course.{Course}
use Rattle.calls.specs.declared.answers.JoiningAnswer.{JoiningAnswer}

-- ---- bills

-- X and CE are one figure where ME is 0; CC is 5 more, the transmission works, and 70 are borne
abbrev figures : ℕ → Reconciliation
figures x = reconciliation_of (record { me = 0; mc = 0; ce = x; cc2 = 0; de = 70; tw = 5; hr = 0; ol = 0 }) 0 1 0

abbrev pub book : Terms
book = record { threshold = 1000; fee = 100; minimum = 500; term = 84 }

-- with each figure another one
abbrev pub other_book : Terms
other_book = record { threshold = 7000; fee = 400; minimum = 2000; term = 120 }

-- the slip's
abbrev slip_book : Terms
slip_book = record { threshold = 5000000; fee = 20000; minimum = 20000; term = 84 }

-- and with another fee, minimum and term
abbrev other_slip_book : Terms
other_slip_book = record { threshold = 5000000; fee = 7; minimum = 9; term = 100 }

-- by the book's terms, with this X: person 9, in month 24,315, of capacity 6, joins no scheme and is unmarked
abbrev pub bill_of : Terms → ℕ → Bill
bill_of terms x =
    record { reconciliation = figures x; terms = terms; applicant = record { person = 9; month = 24315; capacity = 6; scheme = 0; mark = 0 } }

abbrev with_applicant : (Applicant → Applicant) → Bill → Bill
with_applicant change bill = record { reconciliation = bill.reconciliation; terms = bill.terms; applicant = change bill.applicant }

abbrev pub with_month : ℕ → Bill → Bill
with_month month =
    with_applicant
    (λ who. record { person = who.person; month = month; capacity = who.capacity; scheme = who.scheme; mark = who.mark })

abbrev pub with_capacity : ℕ → Bill → Bill
with_capacity capacity =
    with_applicant
    (λ who. record { person = who.person; month = who.month; capacity = capacity; scheme = who.scheme; mark = who.mark })

abbrev pub in_scheme : ℕ → Bill → Bill
in_scheme scheme =
    with_applicant
    (λ who. record { person = who.person; month = who.month; capacity = who.capacity; scheme = scheme; mark = who.mark })

abbrev pub with_mark : ℕ → Bill → Bill
with_mark mark =
    with_applicant
    (λ who. record { person = who.person; month = who.month; capacity = who.capacity; scheme = who.scheme; mark = mark })

-- an application that opens a scheme of cost 1,001 if it can, in the last accepted month
abbrev pub opening : Bill
opening = bill_of book 1001

-- one of capacity 6 that joins scheme 1, with X the threshold; and one that builds on, with a cent more
abbrev pub joining : Bill
joining = in_scheme 1 (bill_of book 1000)

abbrev pub building_on : Bill
building_on = in_scheme 1 opening

-- and under the other book
abbrev joining_by_other : Bill
joining_by_other = in_scheme 1 (bill_of other_book 7000)

abbrev building_on_by_other : Bill
building_on_by_other = in_scheme 1 (bill_of other_book 7001)

-- ---- books

-- each with its number, from this one on
abbrev pub numbered : {A B : Type 0} → ℕ → (ℕ → A → B) → List A → List B
numbered number each [] = []
numbered number each (x ∷ xs) = each number x ∷ numbered (suc number) each xs

-- a scheme of this cost, opened in month 24,315 by a book's terms
abbrev scheme_by : Terms → ℕ → ℕ → SchemeParticulars
scheme_by terms number cost =
    record { number = number; cost = cost; fee = terms.fee; minimum = terms.minimum; opening = 24315; term = terms.term }

-- an entry's scheme and capacity
abbrev entry_by : ℕ → ℕ × ℕ → EntryParticulars
entry_by number party = record { number = number; scheme = party.0; capacity = party.1; credited = 0; paid_out = 0 }

-- The cost of scheme 1; how many connections, schemes and entries there are, and the table's length. The last accepted month is 24,315. Scheme 1 was opened in
-- that month by the book, and its entries are the first two, with a capacity of 30 together: a joiner of capacity 6 pays a sixth.
abbrev books : ℕ → ℕ → ℕ → ℕ → ℕ → Books
books cost connections schemes entries room =
    record {
      connections = connections;
      month = 24315;
      next_scheme = schemes + 1;
      next_entry = entries + 1;
      room = room;
      schemes = numbered 1 (scheme_by book) (take schemes (cost ∷ replicate 63 1800));
      entries = numbered 1 entry_by (take entries ((1, 20) ∷ (1, 10) ∷ replicate 510 (2, 7)));
    }

-- scheme 1 alone, opened by the slip's book, with entries of these capacities
abbrev slip_books : ℕ → List ℕ → ℕ → Books
slip_books cost capacities next_entry =
    record {
      connections = 2;
      month = 24315;
      next_scheme = 2;
      next_entry = next_entry;
      room = 3;
      schemes = scheme_by slip_book 1 cost ∷ [];
      entries = numbered 1 (λ number capacity. entry_by number (1, capacity)) capacities;
    }

-- scheme 1 alone, of this cost, opened in this month by a book's terms, with entries of these capacities and room for one more
abbrev one_scheme_books : Terms → ℕ → ℕ → List ℕ → Books
one_scheme_books terms cost opening capacities =
    record {
      connections = 2;
      month = 24315;
      next_scheme = 2;
      next_entry = length capacities + 1;
      room = length capacities + 1;
      schemes =
          record { number = 1; cost = cost; fee = terms.fee; minimum = terms.minimum; opening = opening; term = terms.term } ∷ [];
      entries = numbered 1 (λ number capacity. entry_by number (1, capacity)) capacities;
    }

-- no fee and no minimum
abbrev free_book : Terms
free_book = record { threshold = 1000; fee = 0; minimum = 0; term = 84 }

-- ---- the verdict
abbrev pub plain : Course
plain = record { joining = Joining.NotAsked; opens = false }

abbrev pub opens : Course
opens = record { joining = Joining.NotAsked; opens = true }

abbrev pub ended : Course
ended = record { joining = Joining.Ended; opens = false }

abbrev pub small : Course
small = record { joining = Joining.Small; opens = false }

-- G, the scheme's fee, and K
abbrev pub joins : ℕ → ℕ → ℕ → Course
joins G fee K = record { joining = Joining.Pays (record { collected = G; fee = fee; capacity = K }); opens = false }

-- and a scheme opens
abbrev pub and_opens : Course → Course
and_opens course = record { joining = course.joining; opens = true }

abbrev pub verdict_cases : List ((Books × Bill) × Verdict)
verdict_cases =
    -- the 64th and the 65th scheme
    ((books 3000 2 63 2 3, opening), Ok opens) ∷
    ((books 3000 2 64 2 3, opening), Err (refusal 8 0 0)) ∷
    -- the 512th and the 513th entry, opening and joining
    ((books 3000 2 1 511 600, opening), Ok opens) ∷
    ((books 3000 2 1 512 600, opening), Err (refusal 9 0 0)) ∷
    ((books 3000 2 1 511 600, joining), Ok (joins 500 100 30)) ∷
    ((books 3000 2 1 512 600, joining), Err (refusal 9 0 0)) ∷
    -- the table's last record, and none left; "an opening on table length 0 is 9"
    ((books 3000 2 1 2 3, opening), Ok opens) ∷
    ((books 3000 2 1 2 2, opening), Err (refusal 9 0 0)) ∷
    ((books 3000 2 1 2 3, joining), Ok (joins 500 100 30)) ∷
    ((books 3000 2 1 2 2, joining), Err (refusal 9 0 0)) ∷
    ((books 3000 0 0 0 0, opening), Err (refusal 9 0 0)) ∷
    -- connection 1,000,000 and the one after it
    ((books 3000 999999 1 2 3, opening), Ok opens) ∷
    ((books 3000 1000000 1 2 3, opening), Err (refusal 10 0 0)) ∷
    ((books 3000 999999 1 2 3, joining), Ok (joins 500 100 30)) ∷
    ((books 3000 1000000 1 2 3, joining), Err (refusal 10 0 0)) ∷
    -- "month 24,314 after 24,315 is 7"
    ((books 3000 2 1 2 3, with_month 24315 opening), Ok opens) ∷
    ((books 3000 2 1 2 3, with_month 24314 opening), Err (refusal 7 0 0)) ∷
    ((books 3000 2 1 2 3, with_month 24314 (bill_of book 1000)), Err (refusal 7 0 0)) ∷
    ((books 3000 2 1 2 3, with_month 24314 joining), Err (refusal 7 0 0)) ∷
    -- the last scheme, and the number after it
    ((books 3000 2 1 2 3, in_scheme 1 (bill_of book 0)), Ok (joins 500 100 30)) ∷
    ((books 3000 2 1 2 3, in_scheme 2 (bill_of book 0)), Err (refusal 6 0 0)) ∷
    ((books 3000 2 64 2 3, in_scheme 65 (bill_of book 0)), Err (refusal 6 0 0)) ∷
    -- X the threshold, and one cent more; a mark opens nothing
    ((books 3000 2 1 2 3, bill_of book 1000), Ok plain) ∷
    ((books 3000 2 1 2 3, bill_of book 1001), Ok opens) ∷
    ((books 3000 2 1 2 3, with_mark 1 opening), Ok plain) ∷
    ((books 3000 2 1 2 3, with_mark 2 opening), Ok plain) ∷
    -- where none opens, neither 64 schemes nor a full table matter
    ((books 3000 2 64 512 512, bill_of book 1000), Ok plain) ∷
    ((books 3000 2 64 512 512, with_mark 1 opening), Ok plain) ∷
    -- G the minimum, and one cent less
    ((books 3000 2 1 2 3, joining), Ok (joins 500 100 30)) ∷
    ((books 2999 2 1 2 3, joining), Ok small) ∷
    -- the last month in force, and the one after it
    ((books 3000 2 1 2 3, with_month 24398 joining), Ok (joins 500 100 30)) ∷
    ((books 3000 2 1 2 3, with_month 24399 joining), Ok ended) ∷
    -- no entry is needed where nothing is collected; a term that has ended counts before a small contribution
    ((books 2999 2 1 2 2, joining), Ok small) ∷
    ((books 2999 2 1 512 600, joining), Ok small) ∷
    ((books 3000 2 1 2 2, with_month 24399 joining), Ok ended) ∷
    ((books 3000 2 1 512 600, with_month 24399 joining), Ok ended) ∷
    ((books 2999 2 1 2 3, with_month 24399 joining), Ok ended) ∷
    -- under another book the scheme's own fee, minimum and term count
    ((books 3000 2 1 2 3, joining_by_other), Ok (joins 500 100 30)) ∷
    ((books 2999 2 1 2 3, joining_by_other), Ok small) ∷
    ((books 3000 2 1 2 3, with_month 24398 joining_by_other), Ok (joins 500 100 30)) ∷
    ((books 3000 2 1 2 3, with_month 24399 joining_by_other), Ok ended) ∷
    -- two at once: 10 before 7, 6, 8 and 9; 7 before 6, 8 and 9, and before "small"; 6 before 9; 8 before 9
    ((books 3000 1000000 1 2 3, with_month 24314 (bill_of book 1000)), Err (refusal 10 0 0)) ∷
    ((books 3000 1000000 1 2 3, in_scheme 2 (bill_of book 0)), Err (refusal 10 0 0)) ∷
    ((books 3000 1000000 64 2 3, opening), Err (refusal 10 0 0)) ∷
    ((books 3000 1000000 1 2 2, opening), Err (refusal 10 0 0)) ∷
    ((books 3000 1000000 1 2 2, joining), Err (refusal 10 0 0)) ∷
    ((books 3000 2 1 2 3, with_month 24314 (in_scheme 2 (bill_of book 0))), Err (refusal 7 0 0)) ∷
    ((books 3000 2 64 2 3, with_month 24314 opening), Err (refusal 7 0 0)) ∷
    ((books 3000 2 1 2 2, with_month 24314 opening), Err (refusal 7 0 0)) ∷
    ((books 3000 2 1 2 2, with_month 24314 joining), Err (refusal 7 0 0)) ∷
    ((books 2999 2 1 2 3, with_month 24314 joining), Err (refusal 7 0 0)) ∷
    ((books 3000 2 1 2 2, in_scheme 2 (bill_of book 0)), Err (refusal 6 0 0)) ∷
    ((books 3000 2 64 512 512, opening), Err (refusal 8 0 0)) ∷
    []

-- document 02, E4: a joiner who builds on
abbrev pub building_on_cases : List ((Books × Bill) × Verdict)
building_on_cases =
    -- X the threshold, and one cent more; a joiner with a mark opens nothing
    ((books 3000 2 1 2 4, joining), Ok (joins 500 100 30)) ∷
    ((books 3000 2 1 2 4, building_on), Ok (and_opens (joins 500 100 30))) ∷
    ((books 3000 2 1 2 4, with_mark 1 building_on), Ok (joins 500 100 30)) ∷
    ((books 3000 2 1 2 4, with_mark 2 building_on), Ok (joins 500 100 30)) ∷
    -- by the threshold of the joiner's own book; for the joining the scheme's own fee, minimum and term count
    ((books 3000 2 1 2 4, joining_by_other), Ok (joins 500 100 30)) ∷
    ((books 3000 2 1 2 4, building_on_by_other), Ok (and_opens (joins 500 100 30))) ∷
    ((books 2999 2 1 2 4, building_on_by_other), Ok (and_opens small)) ∷
    ((books 3000 2 1 2 4, with_month 24398 building_on_by_other), Ok (and_opens (joins 500 100 30))) ∷
    ((books 3000 2 1 2 4, with_month 24399 building_on_by_other), Ok (and_opens ended)) ∷
    -- "small" and "ended" don't prevent it
    ((books 2999 2 1 2 4, building_on), Ok (and_opens small)) ∷
    ((books 2999 2 1 2 4, with_mark 1 building_on), Ok small) ∷
    ((books 3000 2 1 2 4, with_month 24399 building_on), Ok (and_opens ended)) ∷
    ((books 3000 2 1 2 4, with_month 24399 (with_mark 2 building_on)), Ok ended) ∷
    -- two entries are needed: the table has none, one and two left
    ((books 3000 2 1 2 2, building_on), Err (refusal 9 0 0)) ∷
    ((books 3000 2 1 2 3, building_on), Err (refusal 9 0 0)) ∷
    ((books 3000 2 1 2 4, building_on), Ok (and_opens (joins 500 100 30))) ∷
    -- and of 512
    ((books 3000 2 1 512 600, building_on), Err (refusal 9 0 0)) ∷
    ((books 3000 2 1 511 600, building_on), Err (refusal 9 0 0)) ∷
    ((books 3000 2 1 510 600, building_on), Ok (and_opens (joins 500 100 30))) ∷
    -- one is needed, by the opening or by the joining: none left, and one
    ((books 2999 2 1 2 2, building_on), Err (refusal 9 0 0)) ∷
    ((books 2999 2 1 2 3, building_on), Ok (and_opens small)) ∷
    ((books 3000 2 1 2 2, with_month 24399 building_on), Err (refusal 9 0 0)) ∷
    ((books 3000 2 1 2 3, with_month 24399 building_on), Ok (and_opens ended)) ∷
    ((books 3000 2 1 2 2, with_mark 1 building_on), Err (refusal 9 0 0)) ∷
    ((books 3000 2 1 2 3, with_mark 1 building_on), Ok (joins 500 100 30)) ∷
    -- none is needed
    ((books 2999 2 1 2 2, with_mark 1 building_on), Ok small) ∷
    ((books 3000 2 1 2 2, with_month 24399 (with_mark 1 building_on)), Ok ended) ∷
    -- the 64th and the 65th scheme; 8 before 9; where none opens, it is never 8
    ((books 3000 2 63 2 4, building_on), Ok (and_opens (joins 500 100 30))) ∷
    ((books 3000 2 64 2 4, building_on), Err (refusal 8 0 0)) ∷
    ((books 3000 2 64 512 512, building_on), Err (refusal 8 0 0)) ∷
    ((books 2999 2 64 2 4, building_on), Err (refusal 8 0 0)) ∷
    ((books 3000 2 64 2 4, with_month 24399 building_on), Err (refusal 8 0 0)) ∷
    ((books 3000 2 64 2 4, joining), Ok (joins 500 100 30)) ∷
    ((books 3000 2 64 2 4, with_mark 1 building_on), Ok (joins 500 100 30)) ∷
    ((books 3000 2 64 2 4, with_mark 2 building_on), Ok (joins 500 100 30)) ∷
    ((books 3000 2 64 512 512, with_mark 1 building_on), Err (refusal 9 0 0)) ∷
    -- 10, 7 and 6 come before; 6 before the opening, though the scheme that opens would have the number
    ((books 3000 1000000 64 512 512, building_on), Err (refusal 10 0 0)) ∷
    ((books 3000 2 64 512 512, with_month 24314 building_on), Err (refusal 7 0 0)) ∷
    ((books 3000 2 1 2 4, in_scheme 2 building_on), Err (refusal 6 0 0)) ∷
    ((books 3000 2 64 512 512, in_scheme 65 building_on), Err (refusal 6 0 0)) ∷
    []

-- terms at the ends of their widths
abbrev end_cases : List ((Books × Bill) × Verdict)
end_cases =
    let last_month = with_month 65535 joining in
    -- opening + term is 65,535, the last month there is, and one past it
    ((one_scheme_books book 3000 65451 (20 ∷ 10 ∷ []), last_month), Ok ended) ∷
    ((one_scheme_books book 3000 65452 (20 ∷ 10 ∷ []), last_month), Ok (joins 500 100 30)) ∷
    -- G 0 is the minimum, and is collected
    ((one_scheme_books free_book 3 24315 (3 ∷ []), with_capacity 1 joining), Ok (joins 0 0 3)) ∷
    []

pub end_cases_hold : map (λ row. verdict row.0.0 row.0.1) end_cases ≡ map (λ row. row.1) end_cases
unfolding verdict
end_cases_hold = refl

pub verdict_cases_hold : map (λ row. verdict row.0.0 row.0.1) verdict_cases ≡ map (λ row. row.1) verdict_cases
unfolding verdict
verdict_cases_hold = refl

pub building_on_cases_hold : map (λ row. verdict row.0.0 row.0.1) building_on_cases ≡ map (λ row. row.1) building_on_cases
unfolding verdict
building_on_cases_hold = refl

-- ---- the decision, with what is credited, and its answer
abbrev decided_of : Books → Bill → Decision
decided_of rows bill = decided_by rows bill (verdict rows bill)

abbrev credit : ℕ → ℕ → Credit
credit entry amount = record { entry = entry; amount = amount }

abbrev decision_cases : List ((Books × Bill) × Decision × CallAnswer)
decision_cases =
    let wide = with_capacity 1000 (in_scheme 1 (bill_of slip_book 0)) in
    let fifth = with_capacity 5000 (in_scheme 1 (bill_of slip_book 0)) in
    -- M6: "threshold 5,000,000: X 5,000,000 opens nothing, 5,000,001 does"
    (let bill = bill_of slip_book 5000000 in
    ((slip_books 6000000 (10000 ∷ []) 2, bill), accepted bill plain [], accepted_as bill JoiningAnswer.NotAsked None)) ∷
    (let bill = bill_of slip_book 5000001 in
    ((slip_books 6000000 (10000 ∷ []) 2, bill), accepted bill opens [], accepted_as bill JoiningAnswer.NotAsked (Some 2))) ∷
    -- M7: "cost 6,000,000, fee and minimum 20,000, capacities 10,000, 5,000, 5,000: collected 2,000,000 and 1,500,000; credits 1,980,000, then 986,666
    -- and 493,334"
    (
      (slip_books 6000000 (10000 ∷ []) 2, fifth),
      accepted fifth (joins 2000000 20000 10000) (credit 1 1980000 ∷ []),
      accepted_as fifth (joined_as 2 2000000) None,
    ) ∷ (
      (slip_books 6000000 (10000 ∷ 5000 ∷ []) 3, fifth),
      accepted fifth (joins 1500000 20000 15000) (credit 1 986666 ∷ credit 2 493334 ∷ []),
      accepted_as fifth (joined_as 3 1500000) None,
    ) ∷
    -- M8: "G equal to the minimum is collected; one cent less isn't. Opening + term − 1 is in force."
    (
      (slip_books 6000000 (299000 ∷ []) 2, wide),
      accepted wide (joins 20000 20000 299000) (credit 1 0 ∷ []),
      accepted_as wide (joined_as 2 20000) None,
    ) ∷
    ((slip_books 5999999 (299000 ∷ []) 2, wide), accepted wide small [], accepted_as wide JoiningAnswer.Small None) ∷
    (let bill = with_month 24398 wide in (
      (slip_books 6000000 (299000 ∷ []) 2, bill),
      accepted bill (joins 20000 20000 299000) (credit 1 0 ∷ []),
      accepted_as bill (joined_as 2 20000) None,
    )) ∷
    (let bill = with_month 24399 wide in
    ((slip_books 6000000 (299000 ∷ []) 2, bill), accepted bill ended [], accepted_as bill JoiningAnswer.Ended None)) ∷
    -- G 0 is credited as 0
    (let bill = with_capacity 1 joining in (
      (one_scheme_books free_book 3 24315 (3 ∷ []), bill),
      accepted bill (joins 0 0 3) (credit 1 0 ∷ []),
      accepted_as bill (joined_as 2 0) None,
    )) ∷
    -- G 11 over four of capacity 1: each running share is rounded, not each by itself
    (let bill = with_capacity 1 joining in (
      (one_scheme_books free_book 55 24315 (1 ∷ 1 ∷ 1 ∷ 1 ∷ []), bill),
      accepted bill (joins 11 0 4) (credit 1 2 ∷ credit 2 3 ∷ credit 3 3 ∷ credit 4 3 ∷ []),
      accepted_as bill (joined_as 5 11) None,
    )) ∷
    -- capacities whose sum is above 65,535
    (let bill = with_capacity 70001 joining in (
      (one_scheme_books free_book 2000 24315 (40000 ∷ 30000 ∷ 1 ∷ []), bill),
      accepted bill (joins 1000 0 70001) (credit 1 571 ∷ credit 2 428 ∷ credit 3 1 ∷ []),
      accepted_as bill (joined_as 4 1000) None,
    )) ∷
    -- a refusal's file and place are 0
    ((books 3000 2 1 2 2, joining), refused (refusal 9 0 0), is_refused (refusal 9 0 0)) ∷
    -- a joiner that builds on: G and the credits by the scheme's cost, fee and parties, the next entry and the next scheme; 9 where one entry is left
    (let bill = with_capacity 5000 (in_scheme 1 (bill_of other_slip_book 5000001)) in (
      (slip_books 6000000 (10000 ∷ []) 2, bill),
      accepted bill (and_opens (joins 2000000 20000 10000)) (credit 1 1980000 ∷ []),
      accepted_as bill (joined_as 2 2000000) (Some 2),
    )) ∷
    (let bill = with_capacity 5000 (in_scheme 1 (bill_of other_slip_book 5000001)) in
    ((slip_books 6000000 (10000 ∷ 20000 ∷ []) 3, bill), refused (refusal 9 0 0), is_refused (refusal 9 0 0))) ∷
    -- "small" with G 19,734, and "ended"
    (let bill = with_capacity 33 (in_scheme 1 (bill_of other_slip_book 5000001)) in (
      (slip_books 6000000 (10000 ∷ []) 2, bill),
      accepted bill (and_opens small) [],
      accepted_as bill JoiningAnswer.Small (Some 2),
    )) ∷
    (let bill = with_month 24399 (in_scheme 1 (bill_of other_slip_book 5000001)) in (
      (slip_books 6000000 (10000 ∷ []) 2, bill),
      accepted bill (and_opens ended) [],
      accepted_as bill JoiningAnswer.Ended (Some 2),
    )) ∷
    []

pub decision_cases_hold :
    map {B = Decision × CallAnswer} (λ row. let decision = decided_of row.0.0 row.0.1 in (decision, answer_to row.0.0 decision)) decision_cases
    ≡ map (λ row. (row.1, row.2)) decision_cases
unfolding verdict
decision_cases_hold = refl

-- ---- what it makes of a ledger and its table

-- a scheme opened in month 24,315 by the book, with this cost and these fees
abbrev pub scheme : ℕ → ℕ → ℕ → Scheme
scheme number cost fees = scheme_of number cost 100 500 24315 84 fees

-- number, scheme, person and capacity; put in, credited and paid out
abbrev pub party : ℕ → ℕ → ℕ → ℕ → ℕ → ℕ → ℕ → Party
party = party_of

-- the last month; connections, charged and borne; entries, and the schemes in order. The next numbers are the counts and one: nothing was cleared.
abbrev pub ledger : ℕ → ℕ → ℕ → ℕ → ℕ → ℕ → List Scheme → Ledger
ledger month connections charged borne entries count schemes =
    record new_ledger {
      month = month;
      connections = connections;
      charged = charged;
      borne = borne;
      next_scheme = count + 1;
      next_entry = entries + 1;
      entries = entries;
      count = count;
      schemes = schemes;
    }

abbrev pub places : ℕ → List Scheme
places n = replicate n no_scheme

-- a record past the last entry: of no account, and left as it is unless an entry takes its place
abbrev pub past : Party
past = party 99 77 66 55 44 33 22

-- scheme 1 was joined once: its entries are 1 and 3, with one of scheme 2 between them
abbrev pub three : Ledger
three = ledger 24316 3 9000 400 3 2 (scheme 1 3000 100 ∷ scheme 2 1800 0 ∷ places 62)

abbrev pub first_three : List Party
first_three = party 1 1 7 20 3000 900 300 ∷ party 2 2 8 30 1800 0 0 ∷ party 3 1 9 10 1000 0 0 ∷ []

abbrev carried_cases : List (Decision × State)
carried_cases =
    -- plain, small and ended: one connection more, CC, the borne sum and the month
    (
      accepted (with_month 24317 (bill_of book 1000)) plain [],
      record { ledger = ledger 24317 4 10005 470 3 2 (scheme 1 3000 100 ∷ scheme 2 1800 0 ∷ places 62); table = first_three ++ (past ∷ past ∷ []) },
    ) ∷ (
      accepted (with_month 24317 (in_scheme 1 (bill_of book 0))) small [],
      record { ledger = ledger 24317 4 9005 470 3 2 (scheme 1 3000 100 ∷ scheme 2 1800 0 ∷ places 62); table = first_three ++ (past ∷ past ∷ []) },
    ) ∷ (
      accepted (with_month 24399 (in_scheme 1 (bill_of book 0))) ended [],
      record { ledger = ledger 24399 4 9005 470 3 2 (scheme 1 3000 100 ∷ scheme 2 1800 0 ∷ places 62); table = first_three ++ (past ∷ past ∷ []) },
    ) ∷
    -- joined: the fee taken once, G no part of CC, the credits on top of what was credited
    (
      accepted (with_month 24317 (in_scheme 1 (bill_of book 0))) (joins 500 100 30) (credit 1 266 ∷ credit 3 134 ∷ []),
      record {
        ledger = ledger 24317 4 9005 470 4 2 (scheme 1 3000 200 ∷ scheme 2 1800 0 ∷ places 62);
        table = party 1 1 7 20 3000 1166 300 ∷ party 2 2 8 30 1800 0 0 ∷ party 3 1 9 10 1000 134 0 ∷ party 4 1 9 6 500 0 0 ∷ past ∷ [];
      },
    ) ∷
    -- opened by the book's fee, minimum and term
    (
      accepted (with_month 24317 (bill_of other_book 7001)) opens [],
      record {
        ledger =
            ledger 24317 4 16006 470 4 3
            (scheme 1 3000 100 ∷
            scheme 2 1800 0 ∷
            scheme_of 3 7001 400 2000 24317 120 0 ∷
            places 61);
        table = first_three ++ (party 4 3 9 6 7001 0 0 ∷ past ∷ []);
      },
    ) ∷
    -- "small" and "ended" that open: one connection, one entry, nothing collected
    (
      accepted (with_month 24317 (in_scheme 1 (bill_of other_book 7001))) (and_opens small) [],
      record {
        ledger = ledger 24317 4 16006 470 4 3 (scheme 1 3000 100 ∷ scheme 2 1800 0 ∷ scheme_of 3 7001 400 2000 24317 120 0 ∷ places 61);
        table = first_three ++ (party 4 3 9 6 7001 0 0 ∷ past ∷ []);
      },
    ) ∷ (
      accepted (with_month 24399 (in_scheme 1 (bill_of other_book 7001))) (and_opens ended) [],
      record {
        ledger = ledger 24399 4 16006 470 4 3 (scheme 1 3000 100 ∷ scheme 2 1800 0 ∷ scheme_of 3 7001 400 2000 24399 120 0 ∷ places 61);
        table = first_three ++ (party 4 3 9 6 7001 0 0 ∷ past ∷ []);
      },
    ) ∷
    (refused (refusal 9 0 0), record { ledger = three; table = first_three ++ (past ∷ past ∷ []) }) ∷
    []

pub carried_cases_hold :
    map (λ row. carried_out (record { ledger = three; table = first_three ++ (past ∷ past ∷ []) }) row.0) carried_cases
    ≡ map (λ row. row.1) carried_cases
carried_cases_hold = refl

-- ---- the same on other ledgers

-- 64 schemes, each with the cost of its number and its first entry
abbrev full_schemes : List Scheme
full_schemes = numbered 1 (λ number none. scheme number number 0) (replicate 64 no_scheme)

abbrev full_entries : List Party
full_entries = numbered 1 (λ number none. party number number 7 20 number 0 0) (replicate 64 no_scheme)

-- figures past 32 bits
abbrev high_scheme : ℕ → Scheme
high_scheme fees = scheme_of 1 2000000000 1000000000 1000000000 24315 84 fees

abbrev high : State
high =
    record {
      ledger = ledger 24316 999999 1099998900000000000 1099998800000000000 2 1 (high_scheme 500000000000 ∷ places 63);
      table = party 1 1 7 1000000 2000000000 1000000000000 999999999998 ∷ party 2 1 8 999999 1999999999 4294967295 4294967295 ∷ past ∷ [];
    }

-- entries up to the table's last record
abbrev no_room : State
no_room = record { ledger = three; table = first_three }

abbrev other_carried_cases : List ((State × Decision) × State)
other_carried_cases =
    -- joined to the last of 64 schemes
    (
      (
        record { ledger = ledger 24316 64 9000 400 64 64 full_schemes; table = full_entries ++ (past ∷ []) },
        accepted (with_month 24317 (in_scheme 64 (bill_of book 0))) (joins 10 4 20) (credit 64 6 ∷ []),
      ),
      record {
        ledger = ledger 24317 65 9005 470 65 64 (take 63 full_schemes ++ (scheme 64 64 4 ∷ []));
        table = take 63 full_entries ++ (party 64 64 7 20 64 6 0 ∷ party 65 64 9 6 10 0 0 ∷ []);
      },
    ) ∷
    -- joined to the second of two: the first scheme and its entries stay as they are
    (
      (
        record { ledger = three; table = first_three ++ (past ∷ past ∷ []) },
        accepted (with_month 24317 (in_scheme 2 (bill_of book 0))) (joins 450 100 30) (credit 2 350 ∷ []),
      ),
      record {
        ledger = ledger 24317 4 9005 470 4 2 (scheme 1 3000 100 ∷ scheme 2 1800 100 ∷ places 62);
        table = party 1 1 7 20 3000 900 300 ∷ party 2 2 8 30 1800 350 0 ∷ party 3 1 9 10 1000 0 0 ∷ party 4 2 9 6 450 0 0 ∷ past ∷ [];
      },
    ) ∷
    -- the millionth connection; each sum goes on above 32 bits
    (
      (high, accepted (with_month 24317 (in_scheme 1 (bill_of book 0))) (joins 2000000000 1000000000 1999999) (credit 1 500000250 ∷ credit 2 499999750 ∷ [])),
      record {
        ledger = ledger 24317 1000000 1099998900000000005 1099998800000000070 3 1 (high_scheme 501000000000 ∷ places 63);
        table =
            party 1 1 7 1000000 2000000000 1000500000250 999999999998 ∷
            party 2 1 8 999999 1999999999 4794967045 4294967295 ∷
            party 3 1 9 6 2000000000 0 0 ∷
            [];
      },
    ) ∷
    -- paid out of the second entry and of the first
    ((high, paid_out 1 2 5), record { ledger = high.ledger; table = party 1 1 7 1000000 2000000000 1000000000000 999999999998 ∷ party 2 1 8 999999 1999999999 4294967295 4294967300 ∷ past ∷ [] }) ∷
    ((high, paid_out 1 1 2), record { ledger = high.ledger; table = party 1 1 7 1000000 2000000000 1000000000000 1000000000000 ∷ party 2 1 8 999999 1999999999 4294967295 4294967295 ∷ past ∷ [] }) ∷
    -- the table's last record is an entry: paid out and handed over
    ((no_room, paid_out 1 3 50), record { ledger = three; table = party 1 1 7 20 3000 900 300 ∷ party 2 2 8 30 1800 0 0 ∷ party 3 1 9 10 1000 0 50 ∷ [] }) ∷
    ((no_room, handed_over 3 5), record { ledger = three; table = party 1 1 7 20 3000 900 300 ∷ party 2 2 8 30 1800 0 0 ∷ party 3 1 5 10 1000 0 0 ∷ [] }) ∷
    []

pub other_carried_cases_hold : map (λ row. carried_out row.0.0 row.0.1) other_carried_cases ≡ map (λ row. row.1) other_carried_cases
other_carried_cases_hold = refl
