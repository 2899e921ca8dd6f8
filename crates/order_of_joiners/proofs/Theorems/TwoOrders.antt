-- The same joiners in two orders, from the calls: both schemes have the same parties (order_within_cents).
use Rattle.std.specs.Prelude.{ℕ, ◌+◌, ◌<◌, ◌≡◌, refl, List, [], ◌∷◌, ◌++◌, map, true, false, cond, length, eqb, IsPermutation}
use Rattle.std.proofs.Common.{sym, ap, ap₂, subst, ◌∙◌, arith, eqb-true}
use Rattle.std.proofs.lemmas.List.{append_cancel_left}
use Rattle.std.proofs.lemmas.List.Sorted.{IsPermutation-refl, IsPermutation-sym, IsPermutation-trans, IsPermutation-map, IsPermutation-to_front, IsPermutation-cons, IsPermutation-append_left}
use Rattle.ledger.specs.Lists.{oldest_first, sum_by, All, nil, more}
use Rattle.ledger.specs.declared.records.Party.{Party}
use Rattle.calls.specs.Decision.{Call, CallAnswer}
use Rattle.calls.specs.Carried.{State}
use Rattle.calls.specs.Calls.{Trace, AllFit}
use Rattle.calls.specs.Calls as calling
use Rattle.calls.proofs.Theorems.Lists.{sum_by_append, sum_by_none, head_of, tail_of, all_map, all_both, all_filter, all_kept}
use Rattle.history.specs.History.{Entering, Account, History, account_of, enterings_of, cost, fee, joinings, with_call, answer_by, history_from, answers_from, no_history}
use Rattle.history.specs.DemandThree.{HoldsAfter}
use Rattle.order_of_joiners.specs.Distance.{cents_for, parts_on}
use Rattle.order_of_joiners.specs.Orders.{Made, MadeOn, history_after, SameParties, Joiner, joiner_of, joiners, EachJoins, history_with}
use Rattle.order_of_joiners.specs.Laws.{PartiesWithin, OrdersWithin, AreParties, TwoOrdersWithin}
use Rattle.order_of_joiners.proofs.Theorems.Shown.{map_map, parts_shown}
use Rattle.order_of_joiners.proofs.Theorems.Joined.{Grown, grown, joined_length, oldest_first_append}
use Rattle.order_of_joiners.proofs.Theorems.OrderWithinCents.{holds_made, sound_made, EachEntering, account_holds, accounts_within, parties_within}

-- ---- two lists of calls, one after the other
trace_append : {before between after : State} {calls later : List Call} {answers later_answers : List CallAnswer} → Trace before calls answers between →
    Trace between later later_answers after → Trace before (calls ++ later) (answers ++ later_answers) after
trace_append calling.none later = later
trace_append (calling.more promise trace) later = calling.more promise (trace_append trace later)

fit_append : (calls later : List Call) → AllFit calls → AllFit later → AllFit (calls ++ later)
fit_append [] later fit fit_later = fit_later
fit_append (call ∷ calls) later fit fit_later = (fit.0, fit_append calls later fit.1 fit_later)

pub history_append : (room : ℕ) (h : History) (calls later : List Call) →
    history_from room h (calls ++ later) ≡ history_from room (history_from room h calls) later
unfolding history_from
history_append room h [] later = refl
history_append room h (call ∷ calls) later = history_append room (with_call room h call) calls later

answers_append : (room : ℕ) (h : History) (calls later : List Call) →
    answers_from room h (calls ++ later) ≡ answers_from room h calls ++ answers_from room (history_from room h calls) later
unfolding history_from answers_from
answers_append room h [] later = refl
answers_append room h (call ∷ calls) later =
    ap (λ answers. answer_by room h call ∷ answers) (answers_append room (with_call room h call) calls later)

module _ (start : List Party) (opening : MadeOn start) (made : Made opening.after) where
  abbrev both : MadeOn start
  both =
      record {
        calls = opening.calls ++ made.calls;
        answers = opening.answers ++ made.answers;
        after = made.after;
        fit = fit_append opening.calls made.calls opening.fit made.fit;
        trace = trace_append opening.trace made.trace;
      }

  holds_both : HoldsAfter (length start) (history_with start opening made) both.calls both.answers made.after
  holds_both = holds_made start both

  pub answers_made : made.answers ≡ answers_from (length start) (history_after start opening) made.calls
  answers_made =
      append_cancel_left opening.answers made.answers (answers_from (length start) (history_after start opening) made.calls)
      (holds_both.answered ∙ answers_append (length start) no_history opening.calls made.calls
      ∙ ap (λ answers. answers ++ answers_from (length start) (history_after start opening) made.calls) (sym (holds_made start opening).answered))

  -- the scheme of a party was given its number
  given : (s : ℕ) (first : Entering) (older : List Entering) → enterings_of s (history_after start opening).entered ≡ first ∷ older →
      s < (history_after start opening).next_scheme
  given s first older is =
      let h = history_after start opening in
      let below : All (λ e. s < h.next_scheme) (enterings_of s h.entered) =
      all_both (λ (e : Entering) (made_it : e.scheme < h.next_scheme) (here : eqb e.scheme s ≡ true).
      subst (λ n. n < h.next_scheme) (eqb-true e.scheme s here) made_it)
      (all_filter (λ (e : Entering). eqb e.scheme s) (sound_made start opening).numbers.schemes_made)
      (all_kept (λ (e : Entering). eqb e.scheme s) h.entered (λ e here. here)) in
      head_of (subst (All (λ e. s < h.next_scheme)) is below)

  all_joined : (s : ℕ) (first : Entering) (older : List Entering) → enterings_of s (history_after start opening).entered ≡ first ∷ older →
      length (account_of s (history_with start opening made)).entered ≡ length (first ∷ older) + length (joiners s made.calls) →
      EachJoins s made.calls made.answers →
      Grown (joiners s made.calls) (first ∷ older) (account_of s (history_with start opening made)).entered
  all_joined s first older is stand each =
      let appended = history_append (length start) no_history opening.calls made.calls in
      subst (λ entered. Grown (joiners s made.calls) entered (account_of s (history_with start opening made)).entered) is
      (subst (λ h. Grown (joiners s made.calls) (enterings_of s (history_after start opening).entered) (enterings_of s h.entered))
      (sym appended)
      (grown s (length start) (history_after start opening) made.calls (given s first older is)
      (ap (λ (h : History). length (enterings_of s h.entered)) (sym appended) ∙ stand ∙ ap (λ entered. length entered + length (joiners s made.calls)) (sym is)) (subst (EachJoins s made.calls) answers_made each)))

-- ---- what the joiners add to the first party's scheme
nothing_added : (figure : Entering → ℕ) (added older : List Entering) → All (λ e. figure e ≡ 0) added → sum_by figure (added ++ older) ≡ sum_by figure older
nothing_added figure added older none = omega (arith, sum_by_append figure added older, sum_by_none figure none)

joinings_added : {added : List Entering} → All (λ e. e.opens ≡ false) added → joinings added ≡ length added
joinings_added nil = refl
joinings_added (more joins others) = rw joins (omega (arith, joinings_added others))

in_order_permutes : {A : Type 0} (xs : List A) → IsPermutation xs (oldest_first xs)
in_order_permutes [] = IsPermutation-refl []
in_order_permutes (x ∷ xs) =
    IsPermutation-trans (x ∷ xs) (xs ++ (x ∷ [])) (oldest_first xs ++ (x ∷ []))
    (IsPermutation-sym (xs ++ (x ∷ [])) (x ∷ xs) (IsPermutation-to_front xs x))
    (IsPermutation-append_left (x ∷ []) xs (oldest_first xs) (in_order_permutes xs))

-- a scheme with its first party, and what came to it
module _ (first : Entering) (joined : List Joiner) (entered : List Entering) (of : Grown joined (first ∷ []) entered) where
  abbrev joiner_in : Entering → Joiner
  joiner_in e = joiner_of e.bill

  cost_is : cost entered ≡ cost (first ∷ [])
  cost_is =
      ap cost of.is
      ∙ nothing_added (λ (e : Entering). cond e.opens e.put_in 0) of.added (first ∷ [])
      (all_map (λ (e : Entering) joins. ap (λ opens. cond opens e.put_in 0) joins) of.joins)

  fee_is : fee entered ≡ fee (first ∷ [])
  fee_is =
      ap fee of.is
      ∙ nothing_added (λ (e : Entering). cond e.opens e.bill.terms.fee 0) of.added (first ∷ [])
      (all_map (λ (e : Entering) joins. ap (λ opens. cond opens e.bill.terms.fee 0) joins) of.joins)

  joinings_are : first.opens ≡ true → joinings entered ≡ length joined
  joinings_are opens =
      let none : ◌≡◌ {A = ℕ} (cond first.opens 0 1) 0 = ap (λ opens. cond opens 0 1) opens in
      ap joinings of.is
      ∙ omega (arith, sum_by_append (λ (e : Entering). cond e.opens 0 1) of.added (first ∷ []), joinings_added of.joins, joined_length of, none)

  parties_are : map joiner_in (oldest_first entered) ≡ joiner_in first ∷ joined
  parties_are =
      ap (λ entered. map joiner_in (oldest_first entered)) of.is
      ∙ ap (map joiner_in) (oldest_first_append of.added (first ∷ []))
      ∙ ap (λ later. joiner_in first ∷ later) of.joiners

  -- all parties' kVA, and the joiners'
  capacities_are : IsPermutation (map (λ e. e.bill.applicant.capacity) entered) (map (λ joiner. joiner.capacity) (joiner_in first ∷ joined))
  capacities_are =
      subst (IsPermutation (map (λ e. e.bill.applicant.capacity) entered))
      (sym (map_map joiner_in (λ (joiner : Joiner). joiner.capacity) (oldest_first entered)) ∙ ap (map (λ (joiner : Joiner). joiner.capacity)) parties_are)
      (IsPermutation-map (λ (e : Entering). e.bill.applicant.capacity) entered (oldest_first entered) (in_order_permutes entered))

  first_is : {P : Entering → Type 0} → All P entered → P first
  first_is {P} all = last of.added (subst (All P) of.is all)
    where
      last : (added : List Entering) → All P (added ++ (first ∷ [])) → P first
      last [] all = head_of all
      last (e ∷ added) all = last added (tail_of all)

same_parties : (first : Entering) (joined joined_other : List Joiner) (one other : Account) → first.opens ≡ true → first.bill.terms.fee ≡ 0 →
    Grown joined (first ∷ []) one.entered → Grown joined_other (first ∷ []) other.entered → IsPermutation joined joined_other → SameParties one other
same_parties first joined joined_other one other opens no_fee of of_other same =
    let no_fee_of : fee (first ∷ []) ≡ 0 = ap₂ (λ opens amount. 0 + cond opens amount 0) opens no_fee in
    let capacities = map (λ (joiner : Joiner). joiner.capacity) in
    let all = joiner_of first.bill ∷ joined in
    let all_other = joiner_of first.bill ∷ joined_other in
    record {
      cost = cost_is first joined one.entered of ∙ sym (cost_is first joined_other other.entered of_other);
      no_fee = fee_is first joined one.entered of ∙ no_fee_of;
      no_other_fee = fee_is first joined_other other.entered of_other ∙ no_fee_of;
      capacities =
          IsPermutation-trans _ (capacities all) _ (capacities_are first joined one.entered of)
          (IsPermutation-trans (capacities all) (capacities all_other) _
          (IsPermutation-map (λ (joiner : Joiner). joiner.capacity) all all_other (IsPermutation-cons (joiner_of first.bill) joined joined_other same))
          (IsPermutation-sym _ (capacities all_other) (capacities_are first joined_other other.entered of_other)));
    }

pub two_orders : TwoOrdersWithin
two_orders start orders s first same =
    let one = account_of s (history_with start orders.opening orders.one) in
    let other = account_of s (history_with start orders.opening orders.other) in
    let joined = joiners s orders.one.calls in
    let joined_other = joiners s orders.other.calls in
    let of = all_joined start orders.opening orders.one s first [] same.opened same.stand same.each_joins in
    let of_other = all_joined start orders.opening orders.other s first [] same.opened same.stand_other same.each_joins_other in
    let holds = holds_both start orders.opening orders.one in
    let holds_other = holds_both start orders.opening orders.other in
    let parties = same_parties first joined joined_other one other same.opens same.no_fee of of_other same.same_joiners in
    let each : EachEntering one other = accounts_within one other parties (account_holds start (both start orders.opening orders.one) s) (account_holds start (both start orders.opening orders.other) s) in
    subst (λ n. AreParties first joined one × AreParties first joined_other other × OrdersWithin (cents_for n) first one other × PartiesWithin (cents_for n) one other (parts_on s orders.one.after) (parts_on s orders.other.after))
    (joinings_are first joined one.entered of same.opens) (
      parties_are first joined one.entered of,
      parties_are first joined_other other.entered of_other,
      record {
        first_within = first_is first joined_other other.entered of_other (first_is first joined one.entered of each) refl;
        joiners_within =
            all_map
            (λ (e : Entering) others. all_map (λ (d : Entering) within same_joiner. within (ap (λ (joiner : Joiner). joiner.capacity) same_joiner)) others) each;
      },
      parties_within one other (parts_on s orders.one.after) (parts_on s orders.other.after) (parts_shown s holds) (parts_shown s holds_other) each,
    )
