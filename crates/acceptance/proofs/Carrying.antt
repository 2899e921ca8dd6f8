-- What a verdict that accepts gives the booking, and that booking, joining and opening come to the plan.
use Rattle.std.specs.Prelude.{ℕ, ◌+◌, ◌≤◌, ◌≡◌, refl, List, Bool, true, false, cond, length, take, set, Ok}
use Rattle.std.proofs.Common.{sym, ap, ap₂, ◌∙◌, arith, length-take-le, take_at}
use Rattle.std.proofs.lemmas.List.Edits.{sets}
use Rattle.charge.specs.declared.Bill.{Bill}
use Rattle.charge.specs.Price.{price_of}
use Rattle.charge.specs.BillLimits.{BillWithin}
use Rattle.ledger.specs.Limits.{most_schemes, most_entries}
use Rattle.ledger.specs.Books.{books_of}
use Rattle.ledger.specs.Sound.{sound}
use Rattle.ledger.specs.SoundConditions.{SoundLedger}
use Rattle.ledger.proofs.Theorems.Sound.{sound_means}
use Rattle.ledger.specs.Table.{credit_each}
use Rattle.ledger.proofs.Theorems.Table.{credit_none}
use Rattle.ledger.specs.declared.records.Party.{Party}
use Rattle.ledger.specs.declared.records.Ledger.{Ledger}
use Rattle.calls.specs.Verdict.{entries_of_joining, entries_needed, verdict}
use Rattle.calls.proofs.Theorems.VerdictConditions.{CourseConditions, course_conditions, pays_at}
use Rattle.calls.proofs.Theorems.Promised.{promise_from}
use Rattle.calls.proofs.Theorems.ByPlace.{length_credits_among}
use Rattle.calls.specs.Carried.{new_party}
use Rattle.calls.specs.Calls.{state_of, Promised}
use Rattle.calls.specs.Decision.{accept, AcceptAnswer, of_accept}
use Rattle.calls.specs.declared.courses.Joining.{Joining}
use Rattle.calls.specs.declared.courses.Joining.TheVariants.{NotAsked, Ended, Small, Pays}
use Rattle.calls.specs.declared.courses.Course.{Course}
use Rattle.acceptance.specs.Plan.{booked_ledger, joined_ledger, padded, credits_by, joiner_added, course_plan, plan_of, plan_table}
use Rattle.acceptance.specs.PlanCarried.{plan_carried_out}
use Rattle.acceptance.specs.PlanNeeds.{CourseDue}
use Rattle.acceptance.specs.PlanFits.{PlanFits}
use Rattle.acceptance.proofs.Theorems.Plan.{joined_counts}
use Rattle.acceptance.proofs.Theorems.PlanNeeds.{course_due, course_pays}
use Rattle.acceptance.proofs.Theorems.PlanFits.{added_count, course_fits}
use Rattle.acceptance.proofs.Theorems.PlanIsCall.{set_each_more, credit_nothing, joiner_parties, opener_parties, added_in_order, one_entry, Step, joined_step, plan_is_call}

-- ---- each part of a plan, by the joining

joiner_count : (number : ℕ) (bill : Bill) (joining : Joining) → (joiner_added number bill joining).count ≡ entries_of_joining joining
joiner_count number bill NotAsked = refl
joiner_count number bill Ended = refl
joiner_count number bill Small = refl
joiner_count number bill (Pays paid) = refl

joiner_put : (number : ℕ) (bill : Bill) (joining : Joining) →
    take (joiner_added number bill joining).count (joiner_added number bill joining).parties ≡ joiner_parties number bill joining
joiner_put number bill NotAsked = refl
joiner_put number bill Ended = refl
joiner_put number bill Small = refl
joiner_put number bill (Pays paid) = refl

opener_put : (opens : Bool) (table : List Party) (at number scheme : ℕ) (bill : Bill) →
    sets table at (opener_parties number scheme bill opens) ≡ cond opens (set table at (new_party number scheme bill bill.reconciliation.x)) table
opener_put true table at number scheme bill = refl
opener_put false table at number scheme bill = refl

-- figures without the zeros past the last one credit the same
same_credits : (table : List Party) (entries : ℕ) → entries ≤ length table → (bill : Bill) (joining : Joining) →
    let figures = credits_by (take entries table) bill joining in
    credit_each table (take entries (padded figures)) ≡ credit_each table figures
same_credits table entries within bill NotAsked = credit_nothing table entries most_entries ∙ sym (credit_none table)
same_credits table entries within bill Ended = credit_nothing table entries most_entries ∙ sym (credit_none table)
same_credits table entries within bill Small = credit_nothing table entries most_entries ∙ sym (credit_none table)
same_credits table entries within bill (Pays paid) =
    let figures = credits_by (take entries table) bill (Pays paid) in
    ap (credit_each table) (take_at figures _ entries (length_credits_among bill.applicant.scheme _ (take entries table) ∙ length-take-le entries table within))

module _ (ledger : Ledger) (table : List Party) (bill : Bill) (course : Course) (stands : sound ledger table (length table) ≡ true)
    (places : length ledger.schemes ≡ most_schemes) (accepts : verdict (books_of ledger table) bill ≡ Ok course) where
  means : SoundLedger ledger table (length table)
  means = sound_means ledger table (length table) stands

  has : CourseConditions (books_of ledger table) bill course
  has = course_conditions (books_of ledger table) bill course accepts

  -- ---- what the steps need
  pub due : BillWithin bill → CourseDue ledger table bill course
  due = course_due ledger table (length table) bill course stands places means.figures.in_table accepts

  fits : PlanFits ledger.entries (length table) table (course_plan ledger table (length table) bill course)
  fits = course_fits ledger table (length table) places (λ holds. means.figures.in_table) stands bill course has

  pub needed : ledger.entries + entries_needed course ≤ length table
  needed = omega (arith, fits.places, added_count ledger.next_entry ledger.next_scheme bill course.joining course.opens)

  pub joiner_place : ledger.entries + (joiner_added ledger.next_entry bill course.joining).count ≤ length table
  joiner_place = omega (arith, needed, joiner_count ledger.next_entry bill course.joining)

  step : Step ledger table bill course.joining
  step =
      joined_step ledger table bill course.joining
      (record {
        scheme = λ paid pays. pays_at ledger table bill paid (course_pays ledger table (length table) bill course has paid pays);
        schemes_in_order = means.numbers.schemes_in_order;
        entries_in_order = means.numbers.entries_in_order;
        left = omega (arith, needed, one_entry ledger.next_entry bill course.joining);
      })

  -- ---- what they come to
  pub carried : {joined : Ledger} {left after : List Party} → joined ≡ joined_ledger course.joining bill (booked_ledger bill ledger) →
      left ≡
      sets (credit_each table (credits_by (take ledger.entries table) bill course.joining)) ledger.entries
      (take (joiner_added ledger.next_entry bill course.joining).count (joiner_added ledger.next_entry bill course.joining).parties) →
      after ≡ cond course.opens (set left joined.entries (new_party joined.next_entry joined.next_scheme bill bill.reconciliation.x)) left →
      after ≡ plan_carried_out ledger.entries table (course_plan ledger table (length table) bill course)
  carried {joined = joined} {left = left} is puts opens =
      let joiner : List Party = joiner_parties ledger.next_entry bill course.joining in
      let scheme : ℕ = ledger.next_scheme in
      let number : ℕ = ledger.next_entry + length joiner in
      let at : ℕ = ledger.entries + length joiner in
      let credited : List Party = credit_each table (take ledger.entries (padded (credits_by (take ledger.entries table) bill course.joining))) in
      let same : left ≡ sets credited ledger.entries joiner =
      puts
      ∙ ap₂ (λ (records : List Party) (added : List Party). sets records ledger.entries added)
      (sym (same_credits table ledger.entries means.figures.in_table bill course.joining)) (joiner_put ledger.next_entry bill course.joining) in
      let entries : joined.entries ≡ at = ap (λ (l : Ledger). l.entries) is ∙ step.entries in
      let next_entry : joined.next_entry ≡ number = ap (λ (l : Ledger). l.next_entry) is ∙ step.next_entry in
      let next_scheme : joined.next_scheme ≡ scheme = ap (λ (l : Ledger). l.next_scheme) is ∙ step.next_scheme in
      opens
      ∙ ap (λ place. cond course.opens (set left place (new_party joined.next_entry joined.next_scheme bill bill.reconciliation.x)) left) entries
      ∙ ap₂ (λ n s. cond course.opens (set left at (new_party n s bill bill.reconciliation.x)) left) next_entry next_scheme
      ∙ sym (opener_put course.opens left at number scheme bill)
      ∙ ap (λ (records : List Party). sets records at (opener_parties number scheme bill course.opens)) same
      ∙ sym (set_each_more credited ledger.entries joiner (opener_parties number scheme bill course.opens))
      ∙ ap (sets credited ledger.entries) (sym (added_in_order ledger.next_entry scheme bill course.joining course.opens))

-- what the goals of the three steps need of these
pub ruleset carrying = (sound_means, due, needed, joiner_place, carried, joined_counts)

-- on a sound ledger the plan is the call
pub accept_kept : (ledger : Ledger) (table : List Party) → length ledger.schemes ≡ most_schemes → (book request : List ℕ) {answer : AcceptAnswer} {after : Ledger} {left : List Party} →
    let plan = plan_of ledger table (length table) (price_of book request) in
    answer ≡ plan.answer → after ≡ plan.ledger → left ≡ plan_table ledger table plan →
    Promised (state_of ledger table) (accept book request) (of_accept answer) (state_of after left)
accept_kept ledger table places book request answers ledgers tables =
    let call = plan_is_call ledger table table book request refl places in
    promise_from (ap of_accept answers ∙ call.0) (ap₂ state_of ledgers tables ∙ call.1)
