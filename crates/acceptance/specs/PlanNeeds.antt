-- What the booking needs, so that no sum passes its width and no place is missed.
use Rattle.std.specs.Prelude.{ℕ, ◌+◌, ◌*◌, ◌-◌, ◌<◌, ◌≤◌, ◌≡◌, List, true, take, get_or, Some}
use Rattle.charge.specs.BillLimits.{BillWithin}
use Rattle.field_values.specs.Limits.{highest_minimum, highest_capacity}
use Rattle.charge.specs.declared.Bill.{Bill}
use Rattle.ledger.specs.Limits.{most_schemes, most_entries, most_connections, highest_sum, highest_next_scheme, highest_next_entry}
use Rattle.ledger.specs.Records.{no_scheme}
use Rattle.ledger.specs.Lookup.{scheme_place}
use Rattle.ledger.specs.Columns.{scheme_column, sum_over}
use Rattle.ledger.specs.CapacityColumns.{capacity_column}
use Rattle.ledger.specs.declared.records.Scheme.{Scheme}
use Rattle.ledger.specs.declared.records.Party.{Party}
use Rattle.ledger.specs.declared.records.Ledger.{Ledger}
use Rattle.calls.specs.Verdict.{entries_needed}
use Rattle.calls.specs.declared.courses.Contribution.{Contribution}
use Rattle.calls.specs.declared.courses.Joining.{Joining}
use Rattle.calls.specs.declared.courses.Joining.TheVariants.{Pays}
use Rattle.calls.specs.declared.courses.Course.{Course}

pub record Bookable (ledger : Ledger) : Type 0 where
  pub connections : ledger.connections < most_connections
  pub charged : ledger.charged ≤ highest_sum * most_connections
  pub borne : ledger.borne ≤ highest_sum * most_connections

-- a fee to be taken at a scheme's place, where so many entries stand and the next one gets this number
pub record FeeDue (many number : ℕ) (schemes : List Scheme) (at : ℕ) : Type 0 where
  pub place : at < most_schemes
  pub entries : many < most_entries
  pub next_entry : number ≤ highest_next_entry most_connections
  pub fees : (get_or schemes at no_scheme).fees ≤ highest_minimum * (most_entries - 1)

abbrev pub FeesDue : Ledger → Bill → Joining → Type 0
FeesDue ledger bill joining =
    (paid : Contribution) (at : ℕ) → joining ≡ Pays paid → scheme_place bill.applicant.scheme (take ledger.count ledger.schemes) ≡ Some at →
    FeeDue ledger.entries ledger.next_entry ledger.schemes at

-- G less the fee, to be credited to the scheme's entries, whose capacity is K
pub record CreditDue (entries : List Party) (bill : Bill) (paid : Contribution) : Type 0 where
  pub fee : paid.fee ≤ paid.collected
  pub some_capacity : 1 ≤ paid.capacity
  pub capacity : paid.capacity ≤ highest_capacity * most_entries
  pub is : paid.capacity ≡ sum_over bill.applicant.scheme (scheme_column entries) (capacity_column entries)

abbrev pub CreditsDue : List Party → Bill → Joining → Type 0
CreditsDue entries bill joining = (paid : Contribution) → joining ≡ Pays paid → CreditDue entries bill paid

pub record CourseDue (ledger : Ledger) (parties : List Party) (bill : Bill) (course : Course) : Type 0 where
  pub bookable : Bookable ledger
  pub within : BillWithin bill
  pub schemes : ledger.count ≤ most_schemes
  pub entries : ledger.entries ≤ most_entries
  pub next_entry : ledger.next_entry ≤ highest_next_entry most_connections
  pub fees : FeesDue ledger bill course.joining
  pub credits : CreditsDue (take ledger.entries parties) bill course.joining
  pub opening : course.opens ≡ true → (ledger.count < most_schemes) × (ledger.next_scheme < highest_next_scheme) × (ledger.entries + entries_needed course ≤ most_entries)
