-- The plan by what it goes by, and what its steps leave of the counts.
use Rattle.std.specs.Prelude.{ℕ, ◌+◌, ◌≤◌, ◌≡◌, refl, List, true, take, None, Option, Some}
use Rattle.std.proofs.Math.Path.{ap}
use Rattle.std.proofs.Common.{arith}
use Rattle.charge.specs.declared.Bill.{Bill}
use Rattle.charge.specs.Price.{Pricing}
use Rattle.ledger.specs.Lookup.{scheme_place}
use Rattle.ledger.specs.Sound.{sound}
use Rattle.ledger.specs.declared.records.Party.{Party}
use Rattle.ledger.specs.declared.records.Ledger.{Ledger}
use Rattle.calls.specs.Verdict.{entries_of_joining}
use Rattle.calls.specs.declared.courses.Joining.{Joining}
use Rattle.calls.specs.declared.courses.Joining.TheVariants.{NotAsked, Ended, Small, Pays}
use Rattle.acceptance.specs.Plan.{fee_at_place, joined_ledger, priced_plan, plan_of}

module _ (ledger : Ledger) (parties : List Party) (room : ℕ) where
  pub plan_priced : {pricing answer : Pricing} → sound ledger parties room ≡ true → pricing ≡ answer →
      plan_of ledger parties room pricing ≡ priced_plan ledger parties room answer
  unfolding plan_of
  plan_priced stands e = rw stands (ap (priced_plan ledger parties room) e)

-- a joining leaves the number of schemes and the next one's, and counts the entry that it needs
pub record JoinedCounts (ledger : Ledger) (needed : ℕ) (after : Ledger) : Type 0 where
  pub count : after.count ≡ ledger.count
  pub next_scheme : after.next_scheme ≡ ledger.next_scheme
  pub entries : after.entries ≤ ledger.entries + needed
  pub next_entry : after.next_entry ≤ ledger.next_entry + needed

fee_counts : (at : Option ℕ) (fee : ℕ) (ledger : Ledger) → JoinedCounts ledger 1 (fee_at_place at fee ledger)
fee_counts (Some at) fee ledger = record { count = refl; next_scheme = refl; entries = omega arith; next_entry = omega arith }
fee_counts None fee ledger = record { count = refl; next_scheme = refl; entries = omega arith; next_entry = omega arith }

pub joined_counts : (joining : Joining) (bill : Bill) (ledger : Ledger) →
    JoinedCounts ledger (entries_of_joining joining) (joined_ledger joining bill ledger)
joined_counts NotAsked bill ledger = record { count = refl; next_scheme = refl; entries = omega arith; next_entry = omega arith }
joined_counts Ended bill ledger = record { count = refl; next_scheme = refl; entries = omega arith; next_entry = omega arith }
joined_counts Small bill ledger = record { count = refl; next_scheme = refl; entries = omega arith; next_entry = omega arith }
joined_counts (Pays paid) bill ledger = fee_counts (scheme_place bill.applicant.scheme (take ledger.count ledger.schemes)) _ _
