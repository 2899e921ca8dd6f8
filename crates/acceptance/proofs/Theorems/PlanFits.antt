-- A plan that accepts can be carried out.
use Rattle.std.specs.Prelude.{ℕ, zero, suc, ◌-◌, ◌<◌, ◌≤◌, ◌≡◌, refl, List, [], ◌∷◌, ◌++◌, Bool, true, false, length, take, get_or, replicate}
use Rattle.std.proofs.Common.{subst, arith, get_or-take, length-take-le}
use Rattle.charge.specs.declared.Bill.{Bill}
use Rattle.ledger.specs.Limits.{most_schemes, most_entries, highest_put_in, highest_credited}
use Rattle.ledger.specs.Records.{no_scheme, no_party}
use Rattle.ledger.specs.Columns.{scheme_column}
use Rattle.ledger.specs.CapacityColumns.{capacity_column}
use Rattle.ledger.specs.Sound.{sound}
use Rattle.ledger.specs.SoundConditions.{SoundLedger}
use Rattle.ledger.proofs.Theorems.Sound.{sound_means, some_capacity, cost_at_most}
use Rattle.ledger.specs.declared.records.Scheme.{Scheme}
use Rattle.ledger.specs.declared.records.Party.{Party}
use Rattle.ledger.specs.declared.records.Ledger.{Ledger}
use Rattle.calls.specs.CreditColumns.{credits}
use Rattle.calls.proofs.Theorems.CreditColumns.{get_or_le_sum, credits_sum}
use Rattle.calls.specs.Verdict.{entries_needed}
use Rattle.calls.proofs.Theorems.VerdictConditions.{CourseConditions, pays_at}
use Rattle.calls.specs.VerdictConditions.{PaysAt}
use Rattle.calls.specs.declared.courses.Joining.{Joining}
use Rattle.calls.specs.declared.courses.Joining.TheVariants.{NotAsked, Ended, Small, Pays}
use Rattle.calls.specs.declared.courses.Course.{Course}
use Rattle.verdict.specs.Snapshot.{snapshot_books}
use Rattle.verdict.proofs.Theorems.Snapshot.{snapshot_counted}
use Rattle.acceptance.specs.Plan.{credits_by, joiner_added, opener_added, course_plan}
use Rattle.acceptance.proofs.Theorems.PlanNeeds.{where_needed, standing, course_pays}
use Rattle.acceptance.specs.PlanFits.{PlanFits}

-- ---- the entries that are added are those that the course needs
pub added_count : (number scheme : ℕ) (bill : Bill) (joining : Joining) (opens : Bool) →
    (opener_added number scheme bill opens (joiner_added number bill joining)).count ≡ entries_needed (record { joining = joining; opens = opens })
added_count number scheme bill NotAsked true = refl
added_count number scheme bill NotAsked false = refl
added_count number scheme bill Ended true = refl
added_count number scheme bill Ended false = refl
added_count number scheme bill Small true = refl
added_count number scheme bill Small false = refl
added_count number scheme bill (Pays paid) true = refl
added_count number scheme bill (Pays paid) false = refl

few_needed : (joining : Joining) (opens : Bool) → entries_needed (record { joining = joining; opens = opens }) ≤ 2
few_needed NotAsked true = omega arith
few_needed NotAsked false = omega arith
few_needed Ended true = omega arith
few_needed Ended false = omega arith
few_needed Small true = omega arith
few_needed Small false = omega arith
few_needed (Pays paid) true = omega arith
few_needed (Pays paid) false = omega arith

-- ---- credits, with nothing past the last
zeros_at : (n i : ℕ) → ◌≡◌ {A = ℕ} (get_or (replicate n 0) i 0) 0
zeros_at zero i = refl
zeros_at (suc n) zero = refl
zeros_at (suc n) (suc i) = zeros_at n i

padded_at : (figures : List ℕ) (n i : ℕ) → get_or (figures ++ replicate n 0) i 0 ≡ get_or figures i 0
padded_at [] n i = zeros_at n i
padded_at (figure ∷ figures) n zero = refl
padded_at (figure ∷ figures) n (suc i) = padded_at figures n i

module _ (ledger : Ledger) (parties : List Party) (room : ℕ) (places : length ledger.schemes ≡ most_schemes) (records : sound ledger parties room ≡ true → ledger.entries ≤ length parties) where
  module _ (stands : sound ledger parties room ≡ true) where
    means : SoundLedger ledger parties room
    means = sound_means ledger parties room stands

    credited_at_most : (i : ℕ) → i < ledger.entries → (get_or parties i no_party).credited ≤ highest_credited
    credited_at_most i within =
        let all : length (take ledger.entries parties) ≡ ledger.entries = length-take-le ledger.entries parties (records stands) in
        subst (λ (party : Party). party.credited ≤ highest_credited) (get_or-take ledger.entries parties i no_party within)
        (means.figures.each_party i (omega arith)).credited

    module _ (bill : Bill) (course : Course) (has : CourseConditions (snapshot_books ledger parties room) bill course) where
      -- a share is part of G, and G at most the scheme's cost
      credit_at_most : (joining : Joining) → course.joining ≡ joining → (i : ℕ) →
          get_or (credits_by (take ledger.entries parties) bill joining) i 0 ≤ highest_put_in
      credit_at_most NotAsked e i = omega arith
      credit_at_most Ended e i = omega arith
      credit_at_most Small e i = omega arith
      credit_at_most (Pays paid) pays i =
          let s = bill.applicant.scheme in
          let payer = course_pays ledger parties room bill course has paid pays in
          let schemes : List Scheme = take ledger.count ledger.schemes in
          let terms : PaysAt schemes bill paid = pays_at ledger parties bill paid payer in
          let its : (terms.place < length schemes) × ((get_or schemes terms.place no_scheme).number ≡ s) = standing schemes s terms.place terms.at in
          let entries = take ledger.entries parties in
          omega (
            arith,
            get_or_le_sum (credits s (paid.collected - paid.fee) (scheme_column entries) (capacity_column entries)) i,
            credits_sum s (paid.collected - paid.fee) (scheme_column entries) (capacity_column entries)
                (rw its.1 at (some_capacity ledger parties room means.figures terms.place its.0)),
            terms.cost,
            cost_at_most ledger parties room means.figures terms.place its.0,
          )

      pub course_fits : PlanFits ledger.entries room parties (course_plan ledger parties room bill course)
      course_fits =
          let counted = snapshot_counted ledger parties room (omega (arith, means.figures.schemes)) (records stands) in
          let added = added_count ledger.next_entry ledger.next_scheme bill course.joining course.opens in
          let figures = credits_by (take ledger.entries parties) bill course.joining in
          record {
            few = omega (arith, added, few_needed course.joining course.opens);
            limit = omega (arith, added, where_needed (entries_needed course) ledger.entries most_entries means.figures.entries (λ some. omega (arith, has.entries some, counted.entries)));
            places = omega (arith, added, where_needed (entries_needed course) ledger.entries room means.figures.in_table (λ some. omega (arith, has.in_table some, counted.entries)));
            credits =
                λ i within.
                omega (arith, padded_at figures (most_entries - length figures) i, credit_at_most course.joining refl i, credited_at_most i within);
          }
