-- A sound ledger and a verdict that accepts give what the booking needs.
use Rattle.std.specs.Prelude.{ℕ, zero, suc, ◌+◌, ◌<◌, ◌≤◌, ◌≡◌, refl, List, true, cond, eqb, length, take, get_or, Ok, None, Some, Option}
use Rattle.std.proofs.Common.{sym, ap, subst, ◌∙◌, arith, length-take, get_or-take}
use Rattle.charge.specs.BillLimits.{BillWithin}
use Rattle.charge.specs.declared.Bill.{Bill}
use Rattle.ledger.specs.Limits.{most_schemes, most_connections, highest_next_entry}
use Rattle.ledger.specs.Books.{SchemeParticulars, books_of, scheme_at}
use Rattle.ledger.specs.Lookup.{scheme_place}
use Rattle.ledger.specs.Records.{no_scheme}
use Rattle.ledger.proofs.Theorems.Lookup.{placed}
use Rattle.ledger.specs.Sound.{sound}
use Rattle.ledger.specs.SoundConditions.{SoundLedger}
use Rattle.ledger.proofs.Theorems.Sound.{sound_means, some_capacity, capacity_at_most, fees_at_most}
use Rattle.ledger.specs.declared.records.Scheme.{Scheme}
use Rattle.ledger.specs.declared.records.Party.{Party}
use Rattle.ledger.specs.declared.records.Ledger.{Ledger}
use Rattle.calls.specs.Verdict.{joining_by, joining_part, entries_of_joining, entries_needed, verdict}
use Rattle.calls.proofs.Theorems.VerdictConditions.{CourseConditions, course_conditions, PayingConditions, JoiningConditions, joining_conditions, pays_at}
use Rattle.calls.specs.VerdictConditions.{PaysAt}
use Rattle.calls.proofs.Theorems.ByPlace.{capacity_by_place}
use Rattle.calls.specs.declared.courses.Contribution.{Contribution}
use Rattle.calls.specs.declared.courses.Joining.TheVariants.{NotAsked, Pays}
use Rattle.calls.specs.declared.courses.Course.{Course}
use Rattle.verdict.specs.Snapshot.{snapshot_books, Counted}
use Rattle.verdict.proofs.Theorems.Snapshot.{snapshot_counted}
use Rattle.acceptance.specs.PlanNeeds.{FeesDue, CreditsDue, CourseDue}

-- a joiner that pays needs an entry, and so does a scheme that opens
pub paying_needs : (course : Course) (paid : Contribution) → course.joining ≡ Pays paid → 1 ≤ entries_needed course
paying_needs course paid pays = omega (arith, ap entries_of_joining pays)

pub opening_needs : (course : Course) → course.opens ≡ true → 1 ≤ entries_needed course
opening_needs course opens = omega (arith, ap (λ t. cond {A = ℕ} t 1 0) opens)

-- a bound of what is needed where any is
pub where_needed : (needed entries most : ℕ) → entries ≤ most → (1 ≤ needed → entries + needed ≤ most) → entries + needed ≤ most
where_needed zero entries most all left = omega arith
where_needed (suc needed) entries most all left = left (omega arith)

-- the table's length plays no part in a joining
joining_without_room : (ledger : Ledger) (parties : List Party) (room : ℕ) (bill : Bill) (at : Option SchemeParticulars) →
    joining_by (books_of ledger parties) bill at ≡ joining_by (snapshot_books ledger parties room) bill at
joining_without_room ledger parties room bill None = refl
joining_without_room ledger parties room bill (Some row) = refl

-- the joining of a verdict that accepts
pub course_pays : (ledger : Ledger) (parties : List Party) (room : ℕ) (bill : Bill) (course : Course) →
    CourseConditions (snapshot_books ledger parties room) bill course → (paid : Contribution) → course.joining ≡ Pays paid →
    PayingConditions (books_of ledger parties) bill paid
course_pays ledger parties room bill course has paid pays =
    let books = books_of ledger parties in
    let s = bill.applicant.scheme in
    let part : joining_part books bill ≡ joining_part (snapshot_books ledger parties room) bill =
    ap (cond (eqb s 0) NotAsked) (joining_without_room ledger parties room bill (scheme_at books s)) in
    subst (JoiningConditions books bill) (part ∙ sym (ap (λ (c : Course). c.joining) has.is) ∙ pays) (joining_conditions books bill)

-- the scheme with a number, at its place
pub standing : (schemes : List Scheme) (s k : ℕ) → scheme_place s schemes ≡ Some k → (k < length schemes) × ((get_or schemes k no_scheme).number ≡ s)
standing schemes s k at = placed (λ scheme. scheme.number) schemes no_scheme s k at

module _ (ledger : Ledger) (parties : List Party) (room : ℕ) (bill : Bill) (course : Course) where
  module _ (stands : sound ledger parties room ≡ true) (places : length ledger.schemes ≡ most_schemes) (records : ledger.entries ≤ length parties)
      (accepts : verdict (snapshot_books ledger parties room) bill ≡ Ok course) where
    abbrev number : ℕ
    number = bill.applicant.scheme

    abbrev schemes : List Scheme
    schemes = take ledger.count ledger.schemes

    sound_ledger : SoundLedger ledger parties room
    sound_ledger = sound_means ledger parties room stands

    has : CourseConditions (snapshot_books ledger parties room) bill course
    has = course_conditions (snapshot_books ledger parties room) bill course accepts

    counted : Counted (snapshot_books ledger parties room) ledger.count ledger.entries room
    counted = snapshot_counted ledger parties room (omega (arith, sound_ledger.figures.schemes)) records

    next_entry : ledger.next_entry ≤ highest_next_entry most_connections
    next_entry = omega (arith, sound_ledger.numbers.next_entry, has.connections)

    fees_due : FeesDue ledger bill course.joining
    fees_due paid at pays place =
        let below : at < length schemes = (standing schemes number at place).0 in
        let kept : at < ledger.count = omega (arith, length-take ledger.count ledger.schemes) in
        record {
          place = omega (arith, sound_ledger.figures.schemes);
          entries = omega (arith, has.entries (paying_needs course paid pays), counted.entries, paying_needs course paid pays);
          next_entry = next_entry;
          fees = rw (get_or-take ledger.count ledger.schemes at no_scheme kept) at (fees_at_most ledger parties room sound_ledger.figures at below);
        }

    pub credits_due : CreditsDue (take ledger.entries parties) bill course.joining
    credits_due paid pays =
        let payer = course_pays ledger parties room bill course has paid pays in
        let terms : PaysAt schemes bill paid = pays_at ledger parties bill paid payer in
        let its : (terms.place < length schemes) × ((get_or schemes terms.place no_scheme).number ≡ number) =
        standing schemes number terms.place terms.at in
        let capacity = payer.capacity ∙ capacity_by_place number ledger parties in
        record {
          fee = omega (arith, terms.fee, terms.minimum, (sound_ledger.figures.each_scheme terms.place its.0).fee);
          some_capacity = omega (arith, capacity, rw its.1 at (some_capacity ledger parties room sound_ledger.figures terms.place its.0));
          capacity = omega (arith, capacity, capacity_at_most ledger parties room sound_ledger.figures number);
          is = capacity;
        }

    pub course_due : BillWithin bill → CourseDue ledger parties bill course
    course_due within =
        record {
          bookable =
              record {
                connections = has.connections;
                charged = omega (arith, sound_ledger.figures.charged, has.connections);
                borne = omega (arith, sound_ledger.figures.borne, has.connections);
              };
          within = within;
          schemes = sound_ledger.figures.schemes;
          entries = sound_ledger.figures.entries;
          next_entry = next_entry;
          fees = fees_due;
          credits = credits_due;
          opening =
              λ opens. (
                omega (arith, has.schemes opens, counted.schemes),
                has.next_scheme opens,
                omega (arith, has.entries (opening_needs course opens), counted.entries),
              );
        }
