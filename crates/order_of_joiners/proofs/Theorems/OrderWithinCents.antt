-- Two schemes of the same X whose parties have the same kVA in any order: each party's bounds are the same in both (fair_twice).
use Rattle.std.specs.Prelude.{ℕ, zero, suc, ◌+◌, ◌≤◌, ◌<◌, ◌≡◌, refl, List, [], ◌∷◌, map, Bool, true, false, cond, length, eqb, slice_index_or}
use Rattle.std.specs.Prelude as std
use Rattle.std.proofs.Common.{sym, subst, ◌∙◌, inl, inr, arith, eqb-true}
use Rattle.std.proofs.lemmas.List.{length-map}
use Rattle.std.proofs.lemmas.List.Sums.{sum_by-cons}
use Rattle.std.proofs.lemmas.List.Sorted.{length_permutation, sum_by-IsPermutation}
use Rattle.ledger.specs.Lists.{oldest_first, sum_by, All, nil, more}
use Rattle.ledger.specs.declared.records.Party.{Party}
use Rattle.calls.proofs.Theorems.Lists.{head_of, all_map, all_any, all_both, all_filter, all_kept, all_mapped, all_in_order}
use Rattle.history.specs.History.{Entering, Account, account_of, enterings_of, joinings, capacity}
use Rattle.history.specs.DemandThree.{PartyHolds, ClearedHolds, HoldsAfter, bound_figures}
use Rattle.history.specs.SoundHistory.{Chain, ClearedAccount, SoundHistory}
use Rattle.history.proofs.Theorems.Chain.{chain_opened}
use Rattle.history.proofs.Theorems.EveryListOfCalls.{every_list_of_calls, shown_state}
use Rattle.order_of_joiners.specs.Distance.{Part, WithinCents, cents_for, EachWithin, part_of, parts_of, parts_on}
use Rattle.order_of_joiners.specs.Orders.{MadeOn, history_after, IsKept, SameParties}
use Rattle.order_of_joiners.specs.Laws.{PartiesWithin, OrderWithinCents}
use Rattle.order_of_joiners.proofs.Theorems.FairTwice.{fair_twice}
use Rattle.order_of_joiners.proofs.Theorems.Shown.{parts_shown}

-- ---- what demand 3 says of one scheme's parties
pub record AccountHolds (account : Account) (e : Entering) : Type 0 where
  pub party : PartyHolds account e
  pub one_opening : length account.entered ≡ joinings account.entered + 1

all_of_scheme : (P : ℕ → Entering → Type 0) (s : ℕ) (entered : List Entering) → All (λ e. P e.scheme e) entered → All (P s) (enterings_of s entered)
all_of_scheme P s entered all =
    all_both (λ (e : Entering) here of_its. subst (λ (n : ℕ). P n e) (eqb-true e.scheme s here) of_its)
    (all_kept (λ (e : Entering). eqb e.scheme s) entered (λ e here. here))
    (all_filter (λ (e : Entering). eqb e.scheme s) all)

opened_or_joined : (entered : List Entering) → length entered ≡ joinings entered + sum_by (λ e. cond e.opens 1 0) entered
opened_or_joined [] = refl
opened_or_joined (e ∷ older) = omega (arith, opened_or_joined older, one e.opens)
  where
    one : (opens : Bool) → cond opens 0 1 + cond opens 1 0 ≡ 1
    one true = refl
    one false = refl

-- an account has one opening, so that its parties are one more than its joinings
opened_once : (entered : List Entering) → Chain entered → All (λ e. length entered ≡ joinings entered + 1) entered
opened_once [] chain = nil
opened_once (e ∷ older) chain = all_any (e ∷ older) (λ _. omega (arith, opened_or_joined (e ∷ older), chain_opened e older chain))

holds_for : (account : Account) → Chain account.entered → All (PartyHolds account) account.entered → All (AccountHolds account) account.entered
holds_for account chain parties =
    all_both (λ (e : Entering) party once. record { party = party; one_opening = once }) parties (opened_once account.entered chain)

-- demand 3 of a list of calls that was made
pub holds_made : (start : List Party) (made : MadeOn start) → HoldsAfter (length start) (history_after start made) made.calls made.answers made.after
holds_made start made = (every_list_of_calls start made.calls made.answers made.after made.fit made.trace).holds

pub sound_made : (start : List Party) (made : MadeOn start) → SoundHistory (history_after start made)
sound_made start made = (shown_state start made.calls made.answers made.after made.fit made.trace).history.sound

pub account_holds : (start : List Party) (made : MadeOn start) (s : ℕ) →
    All (AccountHolds (account_of s (history_after start made))) (account_of s (history_after start made)).entered
account_holds start made s =
    let h = history_after start made in
    holds_for (account_of s h) ((sound_made start made).accounts s).chain
    (all_of_scheme (λ (n : ℕ) (e : Entering). PartyHolds (account_of n h) e) s h.entered (holds_made start made).parties)

-- also of a scheme that was cleared
at_place : {P : Account → Type 0} {accounts : List Account} (k : ℕ) (account : Account) → All P accounts → k < length accounts → P (slice_index_or accounts k account)
at_place k account nil below = absurd (omega arith)
at_place zero account (more holds others) below = holds
at_place (suc k) account (more holds others) below = at_place k account others (omega arith)

kept_holds : (start : List Party) (made : MadeOn start) (account : Account) → IsKept (history_after start made) account → All (AccountHolds account) account.entered
kept_holds start made account (inl standing) =
    subst (λ account. All (AccountHolds account) account.entered) (sym standing.1) (account_holds start made standing.0)
kept_holds start made account (inr cleared) =
    let sound : ClearedAccount account =
    subst ClearedAccount cleared.2 (at_place {P = ClearedAccount} cleared.0 account (sound_made start made).cleared_sound cleared.1) in
    let holds : ClearedHolds account = subst ClearedHolds cleared.2 (at_place {P = ClearedHolds} cleared.0 account (holds_made start made).cleared_hold cleared.1) in
    holds_for account sound.sound.chain holds.parties

-- ---- the same kVA in another order
capacities_summed : (entered : List Entering) → std.sum_by (λ (n : ℕ). n) (map (λ e. e.bill.applicant.capacity) entered) ≡ capacity entered
capacities_summed [] = refl
capacities_summed (e ∷ older) =
    sum_by-cons (λ (n : ℕ). n) e.bill.applicant.capacity (map (λ e. e.bill.applicant.capacity) older)
    ∙ omega (arith, capacities_summed older)

-- each party of the one against each of the other that has the same kVA
abbrev pub EachEntering : Account → Account → Type 0
EachEntering one other =
    All (λ e. All (λ d. e.bill.applicant.capacity ≡ d.bill.applicant.capacity → WithinCents (cents_for (joinings one.entered)) (part_of one e) (part_of other d)) other.entered) one.entered

module _ (one other : Account) (same : SameParties one other) where
  abbrev kva : List Entering → List ℕ
  kva entered = map (λ e. e.bill.applicant.capacity) entered

  same_capacity : capacity one.entered ≡ capacity other.entered
  same_capacity =
      sym (capacities_summed one.entered)
      ∙ sym (sum_by-IsPermutation (λ (n : ℕ). n) (kva one.entered) (kva other.entered) same.capacities)
      ∙ capacities_summed other.entered

  same_length : length one.entered ≡ length other.entered
  same_length =
      sym (length-map one.entered (λ (e : Entering). e.bill.applicant.capacity))
      ∙ sym (length_permutation (kva one.entered) (kva other.entered) same.capacities)
      ∙ length-map other.entered (λ (e : Entering). e.bill.applicant.capacity)

  two_within : (e d : Entering) → 1 ≤ capacity one.entered → AccountHolds one e → AccountHolds other d → e.bill.applicant.capacity ≡ d.bill.applicant.capacity →
      WithinCents (cents_for (joinings one.entered)) (part_of one e) (part_of other d)
  two_within e d positive here there same_kva =
      fair_twice (bound_figures one.entered e) (bound_figures other.entered d)
      (record {
        cost = same.cost;
        no_fee = same.no_fee;
        no_other_fee = same.no_other_fee;
        joinings = omega (arith, here.one_opening, there.one_opening, same_length);
        total_capacity = same_capacity;
        some_capacity = positive;
        capacity = same_kva;
      })
      here.party.fair there.party.fair

  each_within : 1 ≤ capacity one.entered → All (AccountHolds one) one.entered → All (AccountHolds other) other.entered → EachEntering one other
  each_within positive ones others = all_map (λ (e : Entering) here. all_map (λ (d : Entering) there. two_within e d positive here there) others) ones

-- a party has some kVA, so that a scheme that has parties does
some_capacity : (account : Account) (e : Entering) (older : List Entering) → account.entered ≡ e ∷ older → All (AccountHolds account) account.entered →
    1 ≤ capacity account.entered
some_capacity account e older is holds =
    let first = head_of (subst (All (AccountHolds account)) is holds) in
    subst (λ entered. 1 ≤ capacity entered) (sym is) (omega (arith, first.party.some_capacity))

pub accounts_within : (one other : Account) → SameParties one other → All (AccountHolds one) one.entered → All (AccountHolds other) other.entered →
    EachEntering one other
accounts_within one other same holds holds_other = by_parties one.entered refl
  where
    by_parties : (entered : List Entering) → one.entered ≡ entered → EachEntering one other
    by_parties [] none = subst (All _) (sym none) nil
    by_parties (e ∷ older) is = each_within one other same (some_capacity one e older is holds) holds holds_other

parts_within : (one other : Account) → EachEntering one other → EachWithin (cents_for (joinings one.entered)) (parts_of one) (parts_of other)
parts_within one other each = all_mapped (part_of one) (all_map (λ (e : Entering) others. all_mapped (part_of other) others) each)

-- the tables show the same parties in the order of their joining
pub parties_within : (one other : Account) (on_one on_other : List Part) → on_one ≡ oldest_first (parts_of one) →
    on_other ≡ oldest_first (parts_of other) → EachEntering one other → PartiesWithin (cents_for (joinings one.entered)) one other on_one on_other
parties_within one other on_one on_other shown shown_other each =
    let cents = cents_for (joinings one.entered) in
    let within = parts_within one other each in
    record {
      by_histories = within;
      by_tables =
          subst (λ ones. EachWithin cents ones on_other) (sym shown)
          (subst (EachWithin cents (oldest_first (parts_of one))) (sym shown_other)
          (all_in_order (all_map (λ (part : Part) others. all_in_order others) within)));
      shown = shown;
      shown_other = shown_other;
    }

pub order_within_cents : OrderWithinCents
order_within_cents start start_other made made_other = (
  λ one other kept kept_other same.
      parts_within one other (accounts_within one other same (kept_holds start made one kept) (kept_holds start_other made_other other kept_other)),
  λ s t same.
      let one = account_of s (history_after start made) in
      let other = account_of t (history_after start_other made_other) in
      parties_within one other (parts_on s made.after) (parts_on t made_other.after) (parts_shown s (holds_made start made))
      (parts_shown t (holds_made start_other made_other))
      (accounts_within one other same (account_holds start made s) (account_holds start_other made_other t)),
)
