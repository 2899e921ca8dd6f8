-- One scheme's account: what is promised of it, and what each kind of change to it keeps. No other scheme is in sight.
use Rattle.std.specs.Prelude.{ℕ, ◌+◌, ◌≤◌, ◌≡◌, refl, List, [], ◌∷◌, cond, length, eqb, filter}
use Rattle.std.proofs.Common.{sym, ap, ◌∙◌, zero-add, arith, eqb-true}
use Rattle.ledger.specs.Lists.{sum_by, All, nil, more}
use Rattle.calls.proofs.Theorems.Lists.{by_cond, all_map, all_both, sum_by_plus, sum_by_le, sum_by_filter}
use Rattle.history.specs.History.{Entering, Payment, Account, credited, paid_of, credited_to, paid_to}
use Rattle.history.specs.DemandThree.{Balanced, PartyHolds}
use Rattle.history.specs.SoundHistory.{Opens, Joins, Chain, SoundAccount}
use Rattle.history.specs.Split.{Numbered}
use Rattle.history.proofs.Theorems.Chain.{FairIn, chain_holds, chain_capacities}

abbrev account : List Entering → List Payment → Account
account entered paid = record { entered = entered; paid = paid }

pub sound_account_none : SoundAccount (account [] [])
sound_account_none = record { chain = tt; paid_whole = refl; paid_within = nil }

-- ---- what is promised of it
pub balanced : (next : ℕ) (a : Account) → Numbered next a.entered → SoundAccount a → Balanced a
balanced next a n stands =
    let holds = chain_holds next a.entered n stands.chain in
    let within : paid_of a.paid ≤ credited a.entered =
    omega (
      arith,
      stands.paid_whole,
      holds.credited_parties,
      sum_by_le (λ (e : Entering). paid_to e.entry a.paid) (λ (e : Entering). credited_to e.entry a.entered) stands.paid_within,
    ) in
    record {
      collected_whole = omega (arith, within, holds.collected_credited);
      collected_credited = holds.collected_credited;
      credited_parties = sym holds.credited_parties;
      paid_parties = stands.paid_whole;
      cost_borne = omega (arith, holds.put_in, holds.collected_credited, holds.credited_parties);
    }

pub parties_hold : (next : ℕ) (a : Account) → Numbered next a.entered → SoundAccount a → All (PartyHolds a) a.entered
parties_hold next a n stands =
    all_both
    (λ e (fair : FairIn a.entered e) (rest : (1 ≤ e.bill.applicant.capacity) × (paid_to e.entry a.paid ≤ credited_to e.entry a.entered)).
    record { fair = fair; some_capacity = rest.0; paid_within = rest.1 })
    (chain_holds next a.entered n stands.chain).fair
    (all_both (λ e capacity within. (capacity, within)) (chain_capacities a.entered stands.chain) stands.paid_within)

-- ---- one more joining
chain_joined : (e : Entering) (c : List Entering) → 1 ≤ length c → Joins e c → Chain c → Chain (e ∷ c)
chain_joined e [] some j h = absurd (omega arith)
chain_joined e (d ∷ older) some j h = (j, h)

pub sound_account_joined : (e : Entering) (a : Account) → 1 ≤ length a.entered → Joins e a.entered → paid_to e.entry a.paid ≡ 0 → SoundAccount a →
    SoundAccount (account (e ∷ a.entered) a.paid)
sound_account_joined e a some j unpaid stands = record {
  chain = chain_joined e a.entered some j stands.chain;
  paid_whole = omega (arith, stands.paid_whole, unpaid);
  paid_within = more {x = e} (omega (arith, unpaid)) (all_map (λ p h. omega (arith, h)) stands.paid_within);
}

-- ---- an opening
pub sound_account_opened : (e : Entering) → Opens e → SoundAccount (account (e ∷ []) [])
sound_account_opened e o = record { chain = o; paid_whole = refl; paid_within = more {x = e} (omega arith) nil }

-- ---- a pay-out to one of its parties
pub sound_account_paid : (p : Payment) (a : Account) (x : Entering) → filter (λ e. eqb p.entry e.entry) a.entered ≡ x ∷ [] →
    paid_to p.entry a.paid + p.amount ≤ credited_to p.entry a.entered → SoundAccount a → SoundAccount (account a.entered (p ∷ a.paid))
sound_account_paid p a x one enough stands = record {
  chain = stands.chain;
  paid_whole =
      let once : sum_by (λ (e : Entering). cond (eqb p.entry e.entry) p.amount 0) a.entered ≡ p.amount =
      sym (sum_by_filter (λ (e : Entering). p.amount) (λ (e : Entering). eqb p.entry e.entry) a.entered)
      ∙ ap (sum_by (λ (e : Entering). p.amount)) one ∙ zero-add p.amount in
      omega (
        arith,
        stands.paid_whole,
        once,
        sum_by_plus (λ (e : Entering). paid_to e.entry a.paid) (λ (e : Entering). cond (eqb p.entry e.entry) p.amount 0) a.entered,
      );
  paid_within =
      all_map
      (λ (e : Entering) (h : paid_to e.entry a.paid ≤ credited_to e.entry a.entered).
      by_cond (λ (now : ℕ). paid_to e.entry a.paid + now ≤ credited_to e.entry a.entered) (eqb p.entry e.entry) p.amount 0
      (λ here. rw (← eqb-true p.entry e.entry here) enough)
      (λ elsewhere. omega (arith, h)))
      stands.paid_within;
}
