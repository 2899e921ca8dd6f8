-- One scheme's accounts and bounds follow from its enterings: joinings, each right over the tail, and at the end the opening.
use Rattle.std.specs.Prelude.{ℕ, ◌+◌, ◌*◌, ◌-◌, ◌≤◌, ◌<◌, ◌≡◌, refl, List, [], ◌∷◌, Bool, cond}
use Rattle.std.proofs.Common.{sym, ap, ap₂, subst, ◌∙◌, mul-div_cancel, zero-add, arith}
use Rattle.ledger.specs.Lists.{sum_by, All, nil, more}
use Rattle.calls.specs.Rules.{Credit, credit_to}
use Rattle.calls.proofs.Theorems.Lists.{all_map, all_both, sum_by_in_order, sum_by_plus, sum_by_same}
use Rattle.history.specs.History.{Entering, amounts, cost, fee, joinings, collected, fees, credited, capacity, put_ins, credited_to}
use Rattle.history.specs.Fair.{Fair}
use Rattle.history.specs.DemandThree.{bound_figures}
use Rattle.history.specs.SoundHistory.{Opens, Joins, Chain}
use Rattle.history.proofs.Theorems.Split.{shares_back, shared_back, all_below, shares_none, shares_sum, shares_each, shares_whole}
use Rattle.history.specs.Split.{Numbered}
use Rattle.history.proofs.Theorems.Fair.{at_opening, fair_opened, at_joining, fair_joiner, LaterJoining, after_joining, Credits, fair_joined}

-- ---- what a joining gives
module _ (e : Entering) (c : List Entering) (j : Joins e c) where
  abbrev given : List Credit
  given = shares_back (e.put_in - fee c) (capacity c) c

  pub credits_to : (n : ℕ) → credit_to n e.credits ≡ credit_to n given
  credits_to n = ap (credit_to n) (j.credits_shared ∙ shared_back (e.put_in - fee c) c) ∙ sum_by_in_order _ given

  pub credits_sum : 0 < capacity c → amounts e.credits ≡ e.put_in - fee c
  credits_sum positive =
      ap amounts (j.credits_shared ∙ shared_back (e.put_in - fee c) c) ∙ sum_by_in_order _ given
      ∙ shares_sum (e.put_in - fee c) (capacity c) positive c ∙ mul-div_cancel (e.put_in - fee c) positive

  pub cost_kept : cost (e ∷ c) ≡ cost c
  cost_kept = omega (arith, ap (λ (t : Bool). cond t e.put_in 0) j.joins)

  pub fee_kept : fee (e ∷ c) ≡ fee c
  fee_kept = omega (arith, ap (λ (t : Bool). cond t e.bill.terms.fee 0) j.joins)

  pub joinings_more : joinings (e ∷ c) ≡ joinings c + 1
  joinings_more = omega (arith, ap {B = ℕ} (λ (t : Bool). cond t 0 1) j.joins)

  pub collected_more : collected (e ∷ c) ≡ collected c + e.put_in
  collected_more = omega (arith, ap (λ (t : Bool). cond t 0 e.put_in) j.joins)

  pub fees_more : fees (e ∷ c) ≡ fees c + fee c
  fees_more = ap₂ (λ (x y : ℕ). x * y) fee_kept joinings_more ∙ omega arith

-- ---- nobody credits a number that isn't there yet
pub credited_none : (n : ℕ) (c : List Entering) → Chain c → All (λ e. e.entry < n) c → credited_to n c ≡ 0
credited_none n [] h below = refl
credited_none n (e ∷ []) h below = omega (arith, ap (credit_to n) h.credits_none)
credited_none n (e ∷ d ∷ older) h (more b bs) =
    omega (
      arith,
      credited_none n (d ∷ older) h.1 bs,
      credits_to e (d ∷ older) h.0 n,
      shares_none (e.put_in - fee (d ∷ older)) (capacity (d ∷ older)) n bs,
    )

pub joiner_uncredited : (e : Entering) (c : List Entering) → Joins e c → Chain c → All (λ p. p.entry < e.entry) c → credited_to e.entry (e ∷ c) ≡ 0
joiner_uncredited e c j chain below =
    omega (
      arith,
      credited_none e.entry c chain below,
      credits_to e c j e.entry,
      shares_none (e.put_in - fee c) (capacity c) e.entry below,
    )

-- ---- the accounts and the bounds
abbrev pub FairIn : List Entering → Entering → Type 0
FairIn c e = Fair (bound_figures c e)

pub record ChainHolds (c : List Entering) : Type 0 where
  pub put_in : put_ins c ≡ cost c + collected c
  pub collected_credited : collected c ≡ credited c + fees c
  pub credited_parties : sum_by (λ e. credited_to e.entry c) c ≡ credited c
  pub fair : All (FairIn c) c

part_le : (c : List Entering) → All (λ e. e.bill.applicant.capacity ≤ capacity c) c
part_le [] = nil
part_le (e ∷ older) = more {x = e} (omega arith) (all_map (λ p h. omega (arith, h)) (part_le older))

module _ (e : Entering) (c : List Entering) (n : Numbered e.entry c) (j : Joins e c) (positive : 0 < capacity c) (chain : Chain c)
    (was : ChainHolds c) where
  below : All (λ p. p.entry < e.entry) c
  below = all_below e.entry c n

  new_uncredited : credited_to e.entry (e ∷ c) ≡ 0
  new_uncredited = joiner_uncredited e c j chain below

  joined_parties : sum_by (λ p. credited_to p.entry (e ∷ c)) (e ∷ c) ≡ credited (e ∷ c)
  joined_parties =
      omega (
        arith,
        new_uncredited,
        sum_by_plus (λ (p : Entering). credited_to p.entry c) (λ (p : Entering). credit_to p.entry e.credits) c,
        was.credited_parties,
        sum_by_same (λ (p : Entering). credit_to p.entry e.credits) (λ (p : Entering). credit_to p.entry (given e c j))
            (all_map (λ p h. credits_to e c j p.entry) below),
        shares_whole (e.put_in - fee c) (capacity c) e.entry c n,
        credits_sum e c j positive,
        shares_sum (e.put_in - fee c) (capacity c) positive c,
        mul-div_cancel (e.put_in - fee c) positive,
      )

  -- what the joining comes to for an earlier party
  abbrev later_for : Entering → LaterJoining
  later_for p =
      record {
        before = bound_figures c p;
        joiner_capacity = e.bill.applicant.capacity;
        amount = e.put_in - fee c;
        share = credit_to p.entry (given e c j);
      }

  earlier_figures : (p : Entering) → after_joining (later_for p) ≡ bound_figures (e ∷ c) p
  earlier_figures p = λ i. record {
    cost = sym (cost_kept e c j) i;
    fee = sym (fee_kept e c j) i;
    joinings = sym (joinings_more e c j) i;
    total_capacity = capacity (e ∷ c);
    capacity = p.bill.applicant.capacity;
    put_in = p.put_in;
    credited = ap (λ (x : ℕ). credited_to p.entry c + x) (sym (credits_to e c j p.entry)) i;
  }

  joiner_figures : at_joining (cost c) (fee c) (joinings c) (capacity c) e.bill.applicant.capacity ≡ bound_figures (e ∷ c) e
  joiner_figures = λ i. record {
    cost = sym (cost_kept e c j) i;
    fee = sym (fee_kept e c j) i;
    joinings = sym (joinings_more e c j) i;
    total_capacity = capacity (e ∷ c);
    capacity = e.bill.applicant.capacity;
    put_in = sym j.pays i;
    credited = sym new_uncredited i;
  }

  earlier_credits : All (λ p. Credits (later_for p)) c
  earlier_credits =
      all_both
      (λ p part share. record { positive = positive; part = part; taken = omega (arith, j.pays, j.fee_within); shared = share })
      (part_le c) (shares_each (e.put_in - fee c) (capacity c) positive e.entry c n)

  joined_fair : All (FairIn (e ∷ c)) (e ∷ c)
  joined_fair =
      more
      (subst Fair joiner_figures
      (fair_joiner (cost c) (fee c) (joinings c) (capacity c) e.bill.applicant.capacity (omega (arith, positive))))
      (all_both (λ p (credits : Credits (later_for p)) fair. subst Fair (earlier_figures p) (fair_joined (later_for p) credits fair))
      earlier_credits was.fair)

  pub joined_holds : ChainHolds (e ∷ c)
  joined_holds = record {
    put_in = omega (arith, was.put_in, cost_kept e c j, collected_more e c j);
    collected_credited =
        omega (arith, was.collected_credited, collected_more e c j, fees_more e c j, credits_sum e c j positive, j.fee_within);
    credited_parties = joined_parties;
    fair = joined_fair;
  }

module _ (e : Entering) (o : Opens e) where
  pub cost_opened : cost (e ∷ []) ≡ e.put_in
  cost_opened = omega (arith, ap (λ (t : Bool). cond t e.put_in 0) o.opens)

  pub joinings_none : joinings (e ∷ []) ≡ 0
  joinings_none = omega (arith, ap {B = ℕ} (λ (t : Bool). cond t 0 1) o.opens)

  pub fees_none : fees (e ∷ []) ≡ 0
  fees_none = ap (λ (x : ℕ). fee (e ∷ []) * x) joinings_none ∙ omega arith

  pub collected_none : collected (e ∷ []) ≡ 0
  collected_none = omega (arith, ap (λ (t : Bool). cond t 0 e.put_in) o.opens)

  pub opener_uncredited : (n : ℕ) → credited_to n (e ∷ []) ≡ 0
  opener_uncredited n = omega (arith, ap (credit_to n) o.credits_none)

  credited_opened : credited (e ∷ []) ≡ 0
  credited_opened = omega (arith, ap amounts o.credits_none)

  opened_figures : at_opening e.put_in (fee (e ∷ [])) e.bill.applicant.capacity ≡ bound_figures (e ∷ []) e
  opened_figures = λ i. record {
    cost = sym cost_opened i;
    fee = fee (e ∷ []);
    joinings = sym joinings_none i;
    total_capacity = sym (zero-add e.bill.applicant.capacity) i;
    capacity = e.bill.applicant.capacity;
    put_in = e.put_in;
    credited = sym (opener_uncredited e.entry) i;
  }

  pub opened_holds : ChainHolds (e ∷ [])
  opened_holds = record {
    put_in = omega (arith, cost_opened, collected_none);
    collected_credited = omega (arith, collected_none, fees_none, credited_opened);
    credited_parties = omega (arith, opener_uncredited e.entry, credited_opened);
    fair = more {x = e} (subst Fair opened_figures (fair_opened e.put_in (fee (e ∷ [])) e.bill.applicant.capacity)) nil;
  }

pub chain_capacity : (e : Entering) (c : List Entering) → Chain (e ∷ c) → 0 < capacity (e ∷ c)
chain_capacity e [] h = omega (arith, h.some_capacity)
chain_capacity e (d ∷ older) h = omega (arith, h.0.some_capacity)

pub chain_holds : (next : ℕ) (c : List Entering) → Numbered next c → Chain c → ChainHolds c
chain_holds next [] n h = record { put_in = refl; collected_credited = refl; credited_parties = refl; fair = nil }
chain_holds next (e ∷ []) n h = opened_holds e h
chain_holds next (e ∷ d ∷ older) n h =
    joined_holds e (d ∷ older) n.1 h.0 (chain_capacity d older h.1) h.1 (chain_holds e.entry (d ∷ older) n.1 h.1)

pub chain_capacities : (c : List Entering) → Chain c → All (λ e. 1 ≤ e.bill.applicant.capacity) c
chain_capacities [] h = nil
chain_capacities (e ∷ []) h = more {x = e} h.some_capacity nil
chain_capacities (e ∷ d ∷ older) h = more {x = e} h.0.some_capacity (chain_capacities (d ∷ older) h.1)

-- one opening, and it is the scheme's own
pub chain_opened : (e : Entering) (c : List Entering) → Chain (e ∷ c) → sum_by (λ e. cond e.opens 1 0) (e ∷ c) ≡ 1
chain_opened e [] h = omega (arith, ap {B = ℕ} (λ (t : Bool). cond t 1 0) h.opens)
chain_opened e (d ∷ older) h = omega (arith, chain_opened d older h.1, ap {B = ℕ} (λ (t : Bool). cond t 1 0) h.0.joins)
