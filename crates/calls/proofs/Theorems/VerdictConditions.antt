-- What a request that is accepted has: the tests that it passed, one after the other.
use Rattle.std.specs.Prelude.{ℕ, ◌+◌, ◌<◌, ◌≤◌, ◌≡◌, refl, List, Bool, true, false, cond, ◌&&◌, ◌||◌, length, take, get_or, option_map, leb, ltb, eqb, Err, Ok, None, Some, Option}
use Rattle.std.proofs.Common.{sym, ap, subst, ◌∙◌, arith, leb-false, ltb-true, ltb-false, eqb-true}
use Rattle.std.proofs.lemmas.Bool.{eqb-false}
use Rattle.tagged.proofs.Theorems.Impossible.{impossible}
use Rattle.tagged.specs.File.{refusal}
use Rattle.tagged.specs.Refusals.{scheme_never_opened, month_before_last, no_scheme_left, no_entry_left, no_connection_left}
use Rattle.charge.specs.declared.Bill.{Bill}
use Rattle.ledger.specs.Limits.{most_schemes, most_entries, most_connections, highest_next_scheme}
use Rattle.ledger.specs.Records.{no_scheme}
use Rattle.ledger.specs.Lookup.{scheme_place}
use Rattle.ledger.specs.Books.{SchemeParticulars, Books, scheme_particulars, books_of, scheme_at}
use Rattle.ledger.specs.RefusalNumbers.{one_of}
use Rattle.ledger.proofs.Theorems.Sound.{both_true}
use Rattle.ledger.specs.declared.records.Scheme.{Scheme}
use Rattle.ledger.specs.declared.records.Party.{Party}
use Rattle.ledger.specs.declared.records.Ledger.{Ledger}
use Rattle.calls.specs.Rules.{parties_of, capacity_of, contribution}
use Rattle.calls.specs.Verdict.{joining_by, joining_part, opens_scheme, course_of, entries_needed, schemes_lacking, entries_lacking, verdict, Verdict}
use Rattle.calls.proofs.Theorems.Lists.{by_cond}
use Rattle.calls.proofs.Theorems.CreditColumns.{contribution_le_cost}
use Rattle.calls.proofs.Theorems.ByPlace.{scheme_by_place}
use Rattle.calls.specs.VerdictConditions.{verdict_numbers, PaysAt}
use Rattle.calls.specs.declared.courses.Contribution.{Contribution}
use Rattle.calls.specs.declared.courses.Joining.{Joining}
use Rattle.calls.specs.declared.courses.Joining.TheVariants.{NotAsked, Ended, Small, Pays}
use Rattle.calls.specs.declared.courses.Course.{Course}

-- ---- the course of an accepted request
pub record CourseConditions (books : Books) (bill : Bill) (course : Course) : Type 0 where
  pub connections : books.connections < most_connections
  pub month : books.month ≤ bill.applicant.month
  pub opened : bill.applicant.scheme < books.next_scheme
  pub is : course ≡ course_of books bill
  pub schemes : course.opens ≡ true → length books.schemes < most_schemes
  pub next_scheme : course.opens ≡ true → books.next_scheme < highest_next_scheme
  pub entries : 1 ≤ entries_needed course → length books.entries + entries_needed course ≤ most_entries
  pub in_table : 1 ≤ entries_needed course → length books.entries + entries_needed course ≤ books.room

abbrev pub VerdictConditions : Books → Bill → Verdict → Type 0
VerdictConditions books bill (Ok course) = CourseConditions books bill course
VerdictConditions books bill (Err r) = Unit {0}

-- entries are left, where any is needed
record EntriesLeft (entries room needed : ℕ) : Type 0 where
  limit : 1 ≤ needed → entries + needed ≤ most_entries
  in_table : 1 ≤ needed → entries + needed ≤ room

entries_left : (entries room needed : ℕ) → entries_lacking entries room needed ≡ false → EntriesLeft entries room needed
entries_left entries room needed h = by (eqb needed 0) refl (ltb most_entries (entries + needed)) refl h
  where
    by : (nothing : Bool) → eqb needed 0 ≡ nothing → (many : Bool) → ltb most_entries (entries + needed) ≡ many →
        cond nothing false (cond many true (ltb room (entries + needed))) ≡ false → EntriesLeft entries room needed
    by true e many m h =
        record { limit = λ some. absurd (omega (arith, eqb-true needed 0 e)); in_table = λ some. absurd (omega (arith, eqb-true needed 0 e)) }
    by false e true m h = impossible cc
    by false e false m h = record { limit = λ some. ltb-false _ _ m; in_table = λ some. ltb-false _ _ h }

not_many : (opens many last : Bool) → (opens && (many || last)) ≡ false → opens ≡ true → (many ≡ false) × (last ≡ false)
not_many true true last h o = impossible cc
not_many true false last h o = (refl, h)
not_many false many last h o = impossible cc

-- a verdict refuses with one of them, or accepts the request's course, which has passed every test
pub verdict_by : (P : Verdict → Type 0) (books : Books) (bill : Bill) →
    ((number : ℕ) → one_of verdict_numbers number ≡ true → P (Err (refusal number 0 0))) →
    (CourseConditions books bill (course_of books bill) → P (Ok (course_of books bill))) → P (verdict books bill)
unfolding verdict
verdict_by P books bill refuses accepts =
    let course = course_of books bill in
    by_cond P (leb most_connections books.connections) _ _ (λ taken. refuses no_connection_left refl)
    (λ some.
    by_cond P (ltb bill.applicant.month books.month) _ _ (λ early. refuses month_before_last refl)
    (λ in_order.
    by_cond P (leb books.next_scheme bill.applicant.scheme) _ _ (λ never. refuses scheme_never_opened refl)
    (λ was_opened.
    by_cond P (schemes_lacking (length books.schemes) books.next_scheme course.opens) _ _ (λ many. refuses no_scheme_left refl)
    (λ few.
    by_cond P (entries_lacking (length books.entries) books.room (entries_needed course)) _ _ (λ lacking. refuses no_entry_left refl)
    (λ enough.
    let few_schemes = not_many course.opens (leb most_schemes (length books.schemes)) (leb highest_next_scheme books.next_scheme) few in
    let left = entries_left (length books.entries) books.room (entries_needed course) enough in
    accepts
    (record {
      connections = leb-false _ _ some;
      month = ltb-false _ _ in_order;
      opened = leb-false _ _ was_opened;
      is = refl;
      schemes = λ opens. leb-false _ _ (few_schemes opens).0;
      next_scheme = λ opens. leb-false _ _ (few_schemes opens).1;
      entries = left.limit;
      in_table = left.in_table;
    }))))))

pub verdict_conditions : (books : Books) (bill : Bill) → VerdictConditions books bill (verdict books bill)
verdict_conditions books bill = verdict_by (VerdictConditions books bill) books bill (λ number one. tt) (λ has. has)

pub course_conditions : (books : Books) (bill : Bill) (course : Course) → verdict books bill ≡ Ok course → CourseConditions books bill course
course_conditions books bill course accepts = subst (VerdictConditions books bill) accepts (verdict_conditions books bill)

-- ---- its opening
pub record OpeningConditions (bill : Bill) : Type 0 where
  pub mark : bill.applicant.mark ≡ 0
  pub above : bill.terms.threshold < bill.reconciliation.x

pub opening_conditions : (bill : Bill) → opens_scheme bill ≡ true → OpeningConditions bill
opening_conditions bill opens =
    let marked = both_true (eqb bill.applicant.mark 0) _ opens in
    record {
      mark = eqb-true _ _ marked.0;
      above = ltb-true _ _ (both_true (ltb bill.terms.threshold bill.reconciliation.x) true marked.1).0;
    }

-- ---- its joining

-- a joiner that pays, with the scheme's row
pub record PayingConditions (books : Books) (bill : Bill) (paid : Contribution) : Type 0 where
  pub numbered : 1 ≤ bill.applicant.scheme
  pub row : SchemeParticulars
  pub stands : scheme_at books bill.applicant.scheme ≡ Some row
  pub running : bill.applicant.month < row.opening + row.term
  pub collected : paid.collected ≡ contribution row.cost bill.applicant.capacity (capacity_of (parties_of bill.applicant.scheme books))
  pub fee : paid.fee ≡ row.fee
  pub capacity : paid.capacity ≡ capacity_of (parties_of bill.applicant.scheme books)
  pub minimum : row.minimum ≤ paid.collected

abbrev pub JoiningConditions : Books → Bill → Joining → Type 0
JoiningConditions books bill NotAsked = Unit {0}
JoiningConditions books bill Ended = Unit {0}
JoiningConditions books bill Small = Unit {0}
JoiningConditions books bill (Pays paid) = PayingConditions books bill paid

pub joining_conditions : (books : Books) (bill : Bill) → JoiningConditions books bill (joining_part books bill)
joining_conditions books bill =
    by_cond (JoiningConditions books bill) (eqb bill.applicant.scheme 0) _ _ (λ none. tt)
    (λ asked. by_row (scheme_at books bill.applicant.scheme) refl (some_number bill.applicant.scheme (eqb-false _ _ asked)))
  where
    some_number : (s : ℕ) → (s ≡ 0 → ⊥) → 1 ≤ s
    some_number s other = omega (arith, other)

    by_row : (at : Option SchemeParticulars) → scheme_at books bill.applicant.scheme ≡ at → 1 ≤ bill.applicant.scheme →
        JoiningConditions books bill (joining_by books bill at)
    by_row None stands numbered = tt
    by_row (Some row) stands numbered =
        let G = contribution row.cost bill.applicant.capacity (capacity_of (parties_of bill.applicant.scheme books)) in
        by_cond (JoiningConditions books bill) (leb (row.opening + row.term) bill.applicant.month) _ _ (λ ended. tt)
        (λ running.
        by_cond (JoiningConditions books bill) (ltb G row.minimum) _ _ (λ small. tt)
        (λ enough.
        record {
          numbered = numbered;
          row = row;
          stands = stands;
          running = leb-false _ _ running;
          collected = refl;
          fee = refl;
          capacity = refl;
          minimum = ltb-false _ _ enough;
        }))

-- the scheme that a joiner pays into, by its place
pub pays_at : (ledger : Ledger) (table : List Party) (bill : Bill) (paid : Contribution) → PayingConditions (books_of ledger table) bill paid →
    PaysAt (take ledger.count ledger.schemes) bill paid
pays_at ledger table bill paid has =
    by (scheme_place bill.applicant.scheme schemes) refl (sym has.stands ∙ scheme_by_place ledger table bill.applicant.scheme)
  where
    schemes : List Scheme
    schemes = take ledger.count ledger.schemes

    by : (at : Option ℕ) → scheme_place bill.applicant.scheme schemes ≡ at → Some has.row ≡ option_map (λ k. scheme_particulars (get_or schemes k no_scheme)) at →
        PaysAt schemes bill paid
    by None at shown = impossible cc
    by (Some k) at shown =
        let row : has.row ≡ scheme_particulars (get_or schemes k no_scheme) = cc in
        record {
          place = k;
          at = at;
          fee = has.fee ∙ ap (λ r. r.fee) row;
          minimum = omega (arith, has.minimum, ap (λ r. r.minimum) row);
          cost =
              omega (
                arith,
                has.collected,
                contribution_le_cost has.row.cost bill.applicant.capacity (capacity_of (parties_of bill.applicant.scheme (books_of ledger table))),
                ap (λ r. r.cost) row,
              );
        }
