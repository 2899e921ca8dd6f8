-- A plan over a snapshot of the table comes to what the call answers and leaves: booked, joined and opened, each by place.
use Rattle.std.specs.Prelude.{ℕ, zero, suc, ◌+◌, ◌-◌, ◌<◌, ◌≤◌, ◌≡◌, List, [], ◌∷◌, ◌++◌, Bool, true, false, cond, length, take, set, replicate, Err, Ok, Some}
use Rattle.std.proofs.Math.Path.{refl, subst}
use Rattle.std.proofs.Common.{sym, ap, ap₂, ◌∙◌, add-zero, arith, length-set, length-take-le, take_at}
use Rattle.std.proofs.lemmas.List.Edits.{sets}
use Rattle.std.proofs.Math.Seq.{length-sets}
use Rattle.tagged.specs.File.{refusal}
use Rattle.tagged.specs.Refusals.{ledger_unsound}
use Rattle.charge.specs.Price.{price_of, Pricing}
use Rattle.charge.specs.declared.Bill.{Bill}
use Rattle.ledger.specs.Limits.{most_schemes, most_entries}
use Rattle.ledger.specs.Books.{books_of}
use Rattle.ledger.proofs.Theorems.SameEntries.{snapshot_sound}
use Rattle.ledger.specs.Lookup.{scheme_place}
use Rattle.ledger.specs.Sound.{schemes_rise, entries_rise, sound}
use Rattle.ledger.specs.SoundConditions.{SoundLedger}
use Rattle.ledger.proofs.Theorems.Sound.{sound_means}
use Rattle.ledger.specs.Table.{credit_each}
use Rattle.ledger.proofs.Theorems.Table.{length_credit_each, credit_none}
use Rattle.ledger.specs.declared.records.Party.{Party}
use Rattle.ledger.specs.declared.records.Ledger.{Ledger}
use Rattle.calls.specs.Verdict.{entries_of_joining, entries_needed, verdict, Verdict}
use Rattle.calls.specs.VerdictConditions.{PaysAt}
use Rattle.calls.proofs.Theorems.VerdictConditions.{CourseConditions, course_conditions, pays_at}
use Rattle.calls.specs.Decision.{accept, Decision, refused, decided_by, accept_by, credits_by as credits_in, acceptance_of, answer_to, is_accepted, of_accept}
use Rattle.calls.specs.Carried.{State, booked, joined, opened, new_party, carried_out}
use Rattle.calls.specs.Calls.{state_of, answered, leaves}
use Rattle.calls.specs.ByPlace.{credits_among}
use Rattle.calls.proofs.Theorems.ByPlace.{length_credits_among, joined_by_place, opened_by_place}
use Rattle.calls.specs.declared.courses.Contribution.{Contribution}
use Rattle.calls.specs.declared.courses.Joining.{Joining}
use Rattle.calls.specs.declared.courses.Joining.TheVariants.{NotAsked, Ended, Small, Pays}
use Rattle.calls.specs.declared.courses.Course.{Course}
use Rattle.verdict.proofs.Theorems.Snapshot.{snapshot_books_lem, snapshot_counted}
use Rattle.verdict.specs.Snapshot.{Counted}
use Rattle.acceptance.specs.Plan.{booked_ledger, joined_ledger, opened_ledger, padded, credits_by, joiner_added, opener_added, course_plan, verdict_plan, bill_plan, priced_plan, refused_plan, plan_of, plan_table}
use Rattle.acceptance.proofs.Theorems.PlanNeeds.{where_needed, course_pays}
use Rattle.acceptance.specs.PlanCarried.{Plan}

-- ---- entries that are stored one after the other
pub set_each_more : (table : List Party) (at : ℕ) (parties others : List Party) →
    sets table at (parties ++ others) ≡ sets (sets table at parties) (at + length parties) others
set_each_more table at [] others = rw add-zero
set_each_more table at (party ∷ parties) others =
    let next : suc at + length parties ≡ at + suc (length parties) = omega arith in
    set_each_more (set table at party) (suc at) parties others ∙ ap (λ place. sets (sets (set table at party) (suc at) parties) place others) next

-- ---- credits of nothing change nothing
pub credit_nothing : (parties : List Party) (n many : ℕ) → credit_each parties (take n (replicate many 0)) ≡ parties
unfolding credit_each
credit_nothing parties zero many = credit_none parties
credit_nothing parties (suc n) zero = credit_none parties
credit_nothing [] (suc n) (suc many) = refl
credit_nothing (party ∷ parties) (suc n) (suc many) = rw (add-zero, credit_nothing parties n many)

-- ---- the entries that a plan adds, as a list
abbrev pub joiner_parties : ℕ → Bill → Joining → List Party
joiner_parties number bill NotAsked = []
joiner_parties number bill Ended = []
joiner_parties number bill Small = []
joiner_parties number bill (Pays paid) = new_party number bill.applicant.scheme bill paid.collected ∷ []

abbrev pub opener_parties : ℕ → ℕ → Bill → Bool → List Party
opener_parties number scheme bill opens = cond opens (new_party number scheme bill bill.reconciliation.x ∷ []) []

pub added_in_order : (number scheme : ℕ) (bill : Bill) (joining : Joining) (opens : Bool) →
    let joiner = joiner_parties number bill joining in
    let added = opener_added number scheme bill opens (joiner_added number bill joining) in
    take added.count added.parties ≡ joiner ++ opener_parties (number + length joiner) scheme bill opens
added_in_order number scheme bill NotAsked true = refl
added_in_order number scheme bill NotAsked false = refl
added_in_order number scheme bill Ended true = refl
added_in_order number scheme bill Ended false = refl
added_in_order number scheme bill Small true = refl
added_in_order number scheme bill Small false = refl
added_in_order number scheme bill (Pays paid) true = refl
added_in_order number scheme bill (Pays paid) false = refl

pub one_entry : (number : ℕ) (bill : Bill) (joining : Joining) → length (joiner_parties number bill joining) ≡ entries_of_joining joining
one_entry number bill NotAsked = refl
one_entry number bill Ended = refl
one_entry number bill Small = refl
one_entry number bill (Pays paid) = refl

-- ---- booked, and joined
abbrev pub ledger_joined : Ledger → Bill → Joining → Ledger
ledger_joined ledger bill joining = joined_ledger joining bill (booked_ledger bill ledger)

abbrev pub table_joined : Ledger → List Party → Bill → Joining → List Party
table_joined ledger table bill joining =
    sets (credit_each table (take ledger.entries (padded (credits_by (take ledger.entries table) bill joining)))) ledger.entries
    (joiner_parties ledger.next_entry bill joining)

abbrev pub state_joined : Ledger → List Party → Bill → Joining → State
state_joined ledger table bill joining = state_of (ledger_joined ledger bill joining) (table_joined ledger table bill joining)

pub record Step (ledger : Ledger) (table : List Party) (bill : Bill) (joining : Joining) : Type 0 where
  pub is : state_joined ledger table bill joining ≡ joined joining (credits_in (books_of ledger table) bill joining) bill (booked bill (state_of ledger table))
  pub count : (ledger_joined ledger bill joining).count ≡ ledger.count
  pub next_scheme : (ledger_joined ledger bill joining).next_scheme ≡ ledger.next_scheme
  pub entries : (ledger_joined ledger bill joining).entries ≡ ledger.entries + length (joiner_parties ledger.next_entry bill joining)
  pub next_entry : (ledger_joined ledger bill joining).next_entry ≡ ledger.next_entry + length (joiner_parties ledger.next_entry bill joining)
  pub places : length (ledger_joined ledger bill joining).schemes ≡ length ledger.schemes

-- a joiner that pays has its scheme and its place in the table
pub record Joinable (ledger : Ledger) (table : List Party) (bill : Bill) (joining : Joining) : Type 0 where
  pub scheme : (paid : Contribution) → joining ≡ Pays paid → PaysAt (take ledger.count ledger.schemes) bill paid
  pub schemes_in_order : schemes_rise ledger ≡ true
  pub entries_in_order : entries_rise ledger (take ledger.entries table) ≡ true
  pub left : ledger.entries + length (joiner_parties ledger.next_entry bill joining) ≤ length table

module _ (ledger : Ledger) (table : List Party) (bill : Bill) where
  unjoined : state_of (booked_ledger bill ledger) (credit_each table (take ledger.entries (padded []))) ≡ booked bill (state_of ledger table)
  unjoined = ap (state_of (booked_ledger bill ledger)) (credit_nothing table ledger.entries most_entries)

  paid_step : (paid : Contribution) → Joinable ledger table bill (Pays paid) → Step ledger table bill (Pays paid)
  paid_step paid may =
      let s = bill.applicant.scheme in
      let amount = paid.collected - paid.fee in
      let earlier : List Party = take ledger.entries table in
      let left : ledger.entries < length table = omega (arith, may.left) in
      let scheme : PaysAt (take ledger.count ledger.schemes) bill paid = may.scheme paid refl in
      let place : scheme_place s (take ledger.count ledger.schemes) ≡ Some scheme.place = scheme.at in
      let told : take ledger.entries (padded (credits_among s amount earlier)) ≡ credits_among s amount earlier =
      take_at (credits_among s amount earlier) _ ledger.entries
      (length_credits_among s amount earlier ∙ length-take-le ledger.entries table (omega arith)) in
      record {
        is =
            rw (place, told)
            (sym (joined_by_place (booked bill (state_of ledger table)) bill amount scheme.place paid place may.schemes_in_order may.entries_in_order left));
        count = rw place;
        next_scheme = rw place;
        entries = rw place;
        next_entry = rw place;
        places = rw place (simp length-set);
      }

  pub joined_step : (joining : Joining) → Joinable ledger table bill joining → Step ledger table bill joining
  joined_step NotAsked may = record { is = unjoined; count = refl; next_scheme = refl; entries = sym (add-zero _); next_entry = sym (add-zero _); places = refl }
  joined_step Ended may = record { is = unjoined; count = refl; next_scheme = refl; entries = sym (add-zero _); next_entry = sym (add-zero _); places = refl }
  joined_step Small may = record { is = unjoined; count = refl; next_scheme = refl; entries = sym (add-zero _); next_entry = sym (add-zero _); places = refl }
  joined_step (Pays paid) may = paid_step paid may

  -- ---- and opened

  module _ (joining : Joining) (step : Step ledger table bill joining) where
    abbrev table_opened : Bool → List Party
    table_opened opens =
        let joiner = length (joiner_parties ledger.next_entry bill joining) in
        sets (table_joined ledger table bill joining) (ledger.entries + joiner) (opener_parties (ledger.next_entry + joiner) ledger.next_scheme bill opens)

    opened_step : (opens : Bool) →
        (opens ≡ true → (ledger.count < length ledger.schemes) × (ledger.entries + length (joiner_parties ledger.next_entry bill joining) < length table)) →
        state_of (opened_ledger opens bill (ledger_joined ledger bill joining)) (table_opened opens) ≡ opened opens bill (state_joined ledger table bill joining)
    opened_step false may = refl
    opened_step true may =
        let after = ledger_joined ledger bill joining in
        let records : length (table_joined ledger table bill joining) ≡ length table =
        length-sets _ ledger.entries (joiner_parties ledger.next_entry bill joining) ∙ length_credit_each table _ in
        let place = state_joined ledger table bill joining in
        ap (λ at.
        state_of (opened_ledger true bill after)
        (set place.table at
        (new_party (ledger.next_entry + length (joiner_parties ledger.next_entry bill joining)) ledger.next_scheme bill bill.reconciliation.x)))
        (sym step.entries)
        ∙ ap₂ (λ number scheme. state_of (opened_ledger true bill after) (set place.table after.entries (new_party number scheme bill bill.reconciliation.x)))
        (sym step.next_entry) (sym step.next_scheme)
        ∙ sym (
        opened_by_place place bill (omega (arith, (may refl).0, step.count, step.places)) (omega (arith, (may refl).1, step.entries, records))
        )

-- ---- the whole plan
record IsCall (ledger : Ledger) (table : List Party) (plan : Plan) (decision : Decision) : Type 0 where
  answers : of_accept plan.answer ≡ answer_to (books_of ledger table) decision
  leaving : state_of plan.ledger (plan_table ledger table plan) ≡ carried_out (state_of ledger table) decision

module _ (ledger : Ledger) (table parties : List Party) (snapshot : take ledger.entries parties ≡ take ledger.entries table)
    (places : length ledger.schemes ≡ most_schemes) where
  course_is_call : (bill : Bill) (course : Course) → sound ledger table (length table) ≡ true → verdict (books_of ledger table) bill ≡ Ok course →
      IsCall ledger table (course_plan ledger parties (length table) bill course) (decided_by (books_of ledger table) bill (Ok course))
  course_is_call bill course stands accepts =
      let joining = course.joining in
      let plan = course_plan ledger parties (length table) bill course in
      let sound_ledger : SoundLedger ledger table (length table) = sound_means ledger table (length table) stands in
      let has : CourseConditions (books_of ledger table) bill course = course_conditions (books_of ledger table) bill course accepts in
      let counted : Counted (books_of ledger table) ledger.count ledger.entries (length table) =
      snapshot_counted ledger table (length table) (omega (arith, sound_ledger.figures.schemes)) sound_ledger.figures.in_table in
      let fits : ledger.entries + entries_needed course ≤ length table =
      where_needed (entries_needed course) ledger.entries (length table) sound_ledger.figures.in_table
      (λ some. omega (arith, has.in_table some, counted.entries)) in
      let may : Joinable ledger table bill joining =
      record {
        scheme = λ paid pays. pays_at ledger table bill paid (course_pays ledger table (length table) bill course has paid pays);
        schemes_in_order = sound_ledger.numbers.schemes_in_order;
        entries_in_order = sound_ledger.numbers.entries_in_order;
        left = omega (arith, one_entry ledger.next_entry bill joining);
      } in
      let step : Step ledger table bill joining = joined_step ledger table bill joining may in
      let joiner : List Party = joiner_parties ledger.next_entry bill joining in
      let added = added_in_order ledger.next_entry ledger.next_scheme bill joining course.opens in
      let tables : plan_table ledger table plan ≡ table_opened ledger table bill joining step course.opens =
      rw (snapshot, added)
      (set_each_more (credit_each table (take ledger.entries (padded (credits_by (take ledger.entries table) bill joining)))) ledger.entries
      joiner (opener_parties (ledger.next_entry + length joiner) ledger.next_scheme bill course.opens)) in
      record {
        answers = ap (λ books. is_accepted (acceptance_of books bill course)) (snapshot_books_lem ledger table parties snapshot);
        leaving =
            ap (state_of plan.ledger) tables
            ∙ opened_step ledger table bill joining step course.opens
            (λ opens. (
              omega (arith, has.schemes opens, counted.schemes),
              omega (arith, one_entry ledger.next_entry bill joining, ap (λ t. cond {A = ℕ} t 1 0) opens),
            ))
            ∙ ap (opened course.opens bill) step.is;
      }

  verdict_is_call : (bill : Bill) (v : Verdict) → sound ledger table (length table) ≡ true → verdict (books_of ledger table) bill ≡ v →
      IsCall ledger table (verdict_plan ledger parties (length table) bill v) (decided_by (books_of ledger table) bill v)
  verdict_is_call bill (Ok course) stands accepts = course_is_call bill course stands accepts
  verdict_is_call bill (Err r) stands refuses = record { answers = refl; leaving = refl }

  priced_is_call : (pricing : Pricing) → sound ledger table (length table) ≡ true →
      IsCall ledger table (priced_plan ledger parties (length table) pricing) (accept_by (books_of ledger table) pricing)
  unfolding bill_plan
  priced_is_call (Ok bill) stands =
      subst
      (λ books.
      IsCall ledger table (verdict_plan ledger parties (length table) bill (verdict books bill))
      (decided_by (books_of ledger table) bill (verdict (books_of ledger table) bill)))
      (sym (snapshot_books_lem ledger table parties snapshot)) (verdict_is_call bill (verdict (books_of ledger table) bill) stands refl)
  priced_is_call (Err r) stands = record { answers = refl; leaving = refl }

  plan_by_sound : (pricing : Pricing) (t : Bool) → sound ledger table (length table) ≡ t →
      IsCall ledger table (cond t (priced_plan ledger parties (length table) pricing) (refused_plan ledger (refusal ledger_unsound 0 0)))
      (cond t (accept_by (books_of ledger table) pricing) (refused (refusal ledger_unsound 0 0)))
  plan_by_sound pricing true stands = priced_is_call pricing stands
  plan_by_sound pricing false unsound = record { answers = refl; leaving = refl }

pub plan_is_call : (ledger : Ledger) (table parties : List Party) (book request : List ℕ) → take ledger.entries parties ≡ take ledger.entries table →
    length ledger.schemes ≡ most_schemes →
    let plan = plan_of ledger parties (length table) (price_of book request) in
    (of_accept plan.answer ≡ answered (state_of ledger table) (accept book request))
    × (state_of plan.ledger (plan_table ledger table plan) ≡ leaves (state_of ledger table) (accept book request))
unfolding plan_of answered leaves
plan_is_call ledger table parties book request snapshot places =
    let call = plan_by_sound ledger table parties snapshot places (price_of book request) (sound ledger table (length table)) refl in
    rw (snapshot_sound ledger table parties (length table) snapshot) (call.answers, call.leaving)
