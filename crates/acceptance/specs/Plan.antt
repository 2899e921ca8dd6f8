-- An accept as the code makes it, over columns and places: the connection is booked, the joining that is paid comes next, and a scheme that opens last. By
-- `plan_is_call` it comes to what the call answers and leaves.
use Rattle.std.specs.Prelude.{ℕ, ◌+◌, ◌-◌, List, [], ◌++◌, Bool, true, false, cond, length, take, get_or, set, replicate, Err, None, Ok, Option, Some}
use Rattle.tagged.specs.File.{refusal}
use Rattle.tagged.specs.Refusals.{ledger_unsound}
use Rattle.tagged.specs.declared.file.Refusal.{Refusal}
use Rattle.charge.specs.declared.Bill.{Bill}
use Rattle.charge.specs.Price.{Pricing}
use Rattle.ledger.specs.Limits.{most_entries}
use Rattle.ledger.specs.Records.{no_scheme, no_party}
use Rattle.ledger.specs.Updates.{with_fees, with_connection, with_entry, with_schemes, with_scheme}
use Rattle.ledger.specs.Lookup.{scheme_place}
use Rattle.ledger.specs.Sound.{sound}
use Rattle.ledger.specs.declared.records.Party.{Party}
use Rattle.ledger.specs.declared.records.Ledger.{Ledger}
use Rattle.calls.specs.ByPlace.{credits_among}
use Rattle.calls.specs.Verdict.{verdict, Verdict}
use Rattle.calls.specs.Decision.{acceptance_of, AcceptAnswer}
use Rattle.calls.specs.Carried.{new_party, new_scheme}
use Rattle.calls.specs.declared.courses.Joining.{Joining}
use Rattle.calls.specs.declared.courses.Joining.TheVariants.{NotAsked, Ended, Small, Pays}
use Rattle.calls.specs.declared.courses.Course.{Course}
use Rattle.verdict.specs.Snapshot.{snapshot_books}
use Rattle.acceptance.specs.PlanCarried.{Plan, plan_carried_out}

-- ---- the ledger
abbrev pub booked_ledger : Bill → Ledger → Ledger
booked_ledger bill ledger = with_connection bill.applicant.month bill.reconciliation.cc bill.reconciliation.borne ledger

-- the fee taken at a scheme's place, and the joiner's entry counted
abbrev pub fee_taken : ℕ → ℕ → Ledger → Ledger
fee_taken at fee ledger =
    let scheme = get_or ledger.schemes at no_scheme in with_entry (with_schemes (set ledger.schemes at (with_fees (scheme.fees + fee) scheme)) ledger)

-- a verdict that accepts has found the scheme, so that the second case doesn't come up
abbrev pub fee_at_place : Option ℕ → ℕ → Ledger → Ledger
fee_at_place (Some at) fee ledger = fee_taken at fee ledger
fee_at_place None fee ledger = ledger

abbrev pub joined_ledger : Joining → Bill → Ledger → Ledger
joined_ledger NotAsked bill ledger = ledger
joined_ledger Ended bill ledger = ledger
joined_ledger Small bill ledger = ledger
joined_ledger (Pays paid) bill ledger = fee_at_place (scheme_place bill.applicant.scheme (take ledger.count ledger.schemes)) paid.fee ledger

abbrev pub opened_ledger : Bool → Bill → Ledger → Ledger
opened_ledger false bill ledger = ledger
opened_ledger true bill ledger = with_entry (with_scheme (set ledger.schemes ledger.count (new_scheme ledger.next_scheme bill)) ledger)

-- ---- what each entry is credited: a figure for each place, nothing for those past the last
abbrev pub padded : List ℕ → List ℕ
padded figures = figures ++ replicate (most_entries - length figures) 0

abbrev pub credits_by : List Party → Bill → Joining → List ℕ
credits_by entries bill NotAsked = []
credits_by entries bill Ended = []
credits_by entries bill Small = []
credits_by entries bill (Pays paid) = credits_among bill.applicant.scheme (paid.collected - paid.fee) entries

-- ---- the entries that are added: a joiner's, then the first of a scheme that opens; zeros past them
pub record Added : Type 0 where
  pub parties : List Party
  pub count : ℕ

abbrev pub none_added : Added
none_added = record { parties = replicate 2 no_party; count = 0 }

abbrev pub entry_added : Party → Added → Added
entry_added party added = record { parties = set added.parties added.count party; count = added.count + 1 }

-- `number` is the first that an entry gets
abbrev pub joiner_added : ℕ → Bill → Joining → Added
joiner_added number bill NotAsked = none_added
joiner_added number bill Ended = none_added
joiner_added number bill Small = none_added
joiner_added number bill (Pays paid) = entry_added (new_party number bill.applicant.scheme bill paid.collected) none_added

abbrev pub opener_added : ℕ → ℕ → Bill → Bool → Added → Added
opener_added number scheme bill opens added =
    cond opens (entry_added (new_party (number + added.count) scheme bill bill.reconciliation.x) added) added

-- ---- the plan
abbrev pub refused_plan : Ledger → Refusal → Plan
refused_plan ledger r =
    record { answer = Err r; ledger = ledger; credits = padded []; added = none_added.parties; added_count = none_added.count }

abbrev pub course_plan : Ledger → List Party → ℕ → Bill → Course → Plan
course_plan ledger parties room bill course =
    let added = opener_added ledger.next_entry ledger.next_scheme bill course.opens (joiner_added ledger.next_entry bill course.joining) in
    record {
      answer = Ok (acceptance_of (snapshot_books ledger parties room) bill course);
      ledger = opened_ledger course.opens bill (joined_ledger course.joining bill (booked_ledger bill ledger));
      credits = padded (credits_by (take ledger.entries parties) bill course.joining);
      added = added.parties;
      added_count = added.count;
    }

abbrev pub verdict_plan : Ledger → List Party → ℕ → Bill → Verdict → Plan
verdict_plan ledger parties room bill (Ok course) = course_plan ledger parties room bill course
verdict_plan ledger parties room bill (Err r) = refused_plan ledger r

unfoldable pub bill_plan : Ledger → List Party → ℕ → Bill → Plan
bill_plan ledger parties room bill = verdict_plan ledger parties room bill (verdict (snapshot_books ledger parties room) bill)

abbrev pub priced_plan : Ledger → List Party → ℕ → Pricing → Plan
priced_plan ledger parties room (Ok bill) = bill_plan ledger parties room bill
priced_plan ledger parties room (Err r) = refused_plan ledger r

unfoldable pub plan_of : Ledger → List Party → ℕ → Pricing → Plan
plan_of ledger parties room pricing =
    cond (sound ledger parties room) (priced_plan ledger parties room pricing) (refused_plan ledger (refusal ledger_unsound 0 0))

-- ---- the table that a plan makes
abbrev pub plan_table : Ledger → List Party → Plan → List Party
plan_table ledger table plan = by_answer plan.answer
  where
    by_answer : AcceptAnswer → List Party
    by_answer (Ok acceptance) = plan_carried_out ledger.entries table plan
    by_answer (Err r) = table
