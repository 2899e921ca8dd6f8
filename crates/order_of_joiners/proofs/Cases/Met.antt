-- What two_orders and order_within_cents ask for is met by the lists of specs/Cases/OrdersDiffer.antt.
use Rattle.std.specs.Prelude.{ℕ, zero, suc, ◌+◌, ◌≡◌, refl, List, [], ◌∷◌, ◌++◌, Bool, true, false, ◌&&◌, length, ltb, replicate, filter_map, Ok, IsPermutation}
use Rattle.std.specs.List.{list_all}
use mathlib.Core.List.{flat_map}
use Rattle.std.proofs.Common.{sym, ap, subst, ◌∙◌, arith, lit<, ltb-true}
use Rattle.numbers.specs.BigEndian.{Bytes, bytes_of}
use Rattle.numbers.specs.Check.{check_from}
use Rattle.tagged.proofs.Theorems.Impossible.{impossible}
use Rattle.ledger.specs.Lists.{All}
use Rattle.ledger.specs.Records.{no_party, new_ledger}
use Rattle.ledger.specs.declared.records.Party.{Party}
use Rattle.calls.specs.Verdict.{verdict}
use Rattle.calls.specs.Carried.{State}
use Rattle.calls.specs.Calls.{state_of, AllFit}
use Rattle.history.specs.History.{Entering, History, enterings_of, opener, history_from, answers_from, no_history, history_of}
use Rattle.history.specs.Cases.BuildingBooks.{book_of, building_request}
use Rattle.history.proofs.Cases.DecidedCalls.{history_by, answers_by}
use Rattle.history.proofs.Theorems.EveryListOfCalls.{trace_exists}
use Rattle.order_of_joiners.specs.Orders.{Made, joiner_by, joiners, EachJoins, TwoOrders}
use Rattle.order_of_joiners.specs.Cases.OrdersDiffer.{Asking, opens, free_terms, calls_of, small, one_then_six, six_then_one, larger, largest_first, largest_last, Met}
use Rattle.order_of_joiners.proofs.Cases.PricedJoinings.{Billed}
use Rattle.order_of_joiners.proofs.Cases.ByBills.{bill_of, rules_of, history_by_bills, answers_by_bills, joiners_by_bills, all_billed}
use Rattle.order_of_joiners.proofs.Theorems.TwoOrders.{history_append, answers_made}

-- ---- the files are bytes
abbrev are_bytes : List ℕ → Bool
are_bytes file = list_all (λ b. ltb b 256) file

both : (s t : Bool) → (s && t) ≡ true → (s ≡ true) × (t ≡ true)
both true t all = (refl, all)
both false t all = impossible cc

bytes_by : (file : List ℕ) → are_bytes file ≡ true → Bytes file
bytes_by [] all k = omega arith
bytes_by (b ∷ file) all zero = ltb-true b 256 (both (ltb b 256) (are_bytes file) all).0
bytes_by (b ∷ file) all (suc k) = bytes_by file (both (ltb b 256) (are_bytes file) all).1 k

book_fits : Bytes (book_of free_terms)
unfolding check_from bytes_of flat_map
book_fits = bytes_by (book_of free_terms) refl

abbrev requests_are_bytes : List Asking → Bool
requests_are_bytes asked = list_all (λ a. are_bytes (building_request a.x a.capacity a.scheme)) asked

calls_fit : (asked : List Asking) → requests_are_bytes asked ≡ true → AllFit (calls_of asked)
calls_fit [] all = tt
calls_fit (a ∷ asked) all =
    let request = building_request a.x a.capacity a.scheme in (
      (book_fits, bytes_by request (both (are_bytes request) (requests_are_bytes asked) all).0),
      calls_fit asked (both (are_bytes request) (requests_are_bytes asked) all).1,
    )

abbrev made : (before : State) (asked : List Asking) → AllFit (calls_of asked) → Made before
made before asked fit =
    let after = trace_exists before (calls_of asked) in
    record { calls = calls_of asked; answers = after.0; after = after.1; fit = fit; trace = after.2 }

-- ---- two orders of an opening's joiners
module _ (room : ℕ) (opening one other : List Asking) where
  abbrev start : List Party
  start = replicate room no_party

  abbrev orders : AllFit (calls_of opening) → AllFit (calls_of one) → AllFit (calls_of other) → TwoOrders start
  orders fit fit_one fit_other =
      let opened = made (state_of new_ledger start) opening fit in
      record { opening = opened; one = made opened.after one fit_one; other = made opened.after other fit_other }

  abbrev opened_by_bills : History
  opened_by_bills = history_by (length start) no_history (rules_of opening)

  -- the same, by the bills
  record MetByBills : Type 0 where
    fit : AllFit (calls_of opening) × AllFit (calls_of one) × AllFit (calls_of other)
    billed : All Billed opening × All Billed one × All Billed other
    first : Entering
    opened : enterings_of 1 opened_by_bills.entered ≡ first ∷ []
    opens : first.opens ≡ true
    no_fee : first.bill.terms.fee ≡ 0
    no_minimum : first.bill.terms.minimum ≡ 0
    each_joins : EachJoins 1 (calls_of one) (answers_by (length start) opened_by_bills (rules_of one))
    each_joins_other : EachJoins 1 (calls_of other) (answers_by (length start) opened_by_bills (rules_of other))
    stand :
        length (enterings_of 1 (history_by (length start) opened_by_bills (rules_of one)).entered)
        ≡ 1 + length (filter_map (λ a. joiner_by 1 (Ok (bill_of a))) one)
    stand_other :
        length (enterings_of 1 (history_by (length start) opened_by_bills (rules_of other)).entered)
        ≡ 1 + length (filter_map (λ a. joiner_by 1 (Ok (bill_of a))) other)
    same_joiners : IsPermutation (filter_map (λ a. joiner_by 1 (Ok (bill_of a))) one) (filter_map (λ a. joiner_by 1 (Ok (bill_of a))) other)

  met : MetByBills → Met room opening one other
  met by =
      let all = orders by.fit.0 by.fit.1 by.fit.2 in
      let history = history_by_bills (length start) no_history by.billed.0 in
      record {
        orders = all;
        opening_calls = refl;
        one_calls = refl;
        other_calls = refl;
        first = by.first;
        same =
            record {
              opened = ap (λ (h : History). enterings_of 1 h.entered) history ∙ by.opened;
              opens = by.opens;
              no_fee = by.no_fee;
              no_minimum = by.no_minimum;
              each_joins = each one by.billed.1 by.fit.1 by.each_joins;
              each_joins_other = each other by.billed.2 by.fit.2 by.each_joins_other;
              stand =
                  ap length (gone_on one by.billed.1) ∙ by.stand ∙ ap (λ joined. 1 + length joined) (sym (joiners_by_bills 1 by.billed.1));
              stand_other =
                  ap length (gone_on other by.billed.2) ∙ by.stand_other ∙ ap (λ joined. 1 + length joined) (sym (joiners_by_bills 1 by.billed.2));
              same_joiners =
                  subst (λ joined. IsPermutation joined (joiners 1 (calls_of other))) (sym (joiners_by_bills 1 by.billed.1))
                  (subst (IsPermutation (filter_map (λ a. joiner_by 1 (Ok (bill_of a))) one)) (sym (joiners_by_bills 1 by.billed.2)) by.same_joiners);
            };
      }
    where
      gone_on : (order : List Asking) → All Billed order →
          enterings_of 1 (history_of (length start) (calls_of opening ++ calls_of order)).entered
          ≡ enterings_of 1 (history_by (length start) opened_by_bills (rules_of order)).entered
      gone_on order billed =
          ap (λ (h : History). enterings_of 1 h.entered)
          (history_append (length start) no_history (calls_of opening) (calls_of order)
          ∙ ap (λ (h : History). history_from (length start) h (calls_of order)) (history_by_bills (length start) no_history by.billed.0)
          ∙ history_by_bills (length start) opened_by_bills billed)

      each : (order : List Asking) → All Billed order → (fit : AllFit (calls_of order)) →
          EachJoins 1 (calls_of order) (answers_by (length start) opened_by_bills (rules_of order)) →
          EachJoins 1 (calls_of order) (made (made (state_of new_ledger start) opening by.fit.0).after order fit).answers
      each order billed fit joins =
          let opened = made (state_of new_ledger start) opening by.fit.0 in
          subst (EachJoins 1 (calls_of order))
          (sym
          (answers_made start opened (made opened.after order fit)
          ∙ ap (λ (h : History). answers_from (length start) h (calls_of order)) (history_by_bills (length start) no_history by.billed.0)
          ∙ answers_by_bills (length start) opened_by_bills billed))
          joins

all_fit : AllFit (calls_of small) × AllFit (calls_of one_then_six) × AllFit (calls_of six_then_one)
unfolding check_from bytes_of flat_map
all_fit = (calls_fit small refl, calls_fit one_then_six refl, calls_fit six_then_one refl)

all_fit_larger : AllFit (calls_of larger) × AllFit (calls_of largest_first) × AllFit (calls_of largest_last)
unfolding check_from bytes_of flat_map
all_fit_larger = (calls_fit larger refl, calls_fit largest_first refl, calls_fit largest_last refl)

pub small_met : Met 3 small one_then_six six_then_one
unfolding history_by answers_by verdict
small_met =
    met 3 small one_then_six six_then_one
    (record {
      fit = all_fit;
      billed = (all_billed.small, all_billed.one_then_six, all_billed.six_then_one);
      first = opener (bill_of (opens 3 3)) 1 1;
      opened = refl;
      opens = refl;
      no_fee = refl;
      no_minimum = refl;
      each_joins = (λ _. tt, (λ _. tt, tt));
      each_joins_other = (λ _. tt, (λ _. tt, tt));
      stand = refl;
      stand_other = refl;
      same_joiners = record { moves = (0, 1) ∷ []; below = (lit< tt, lit< tt, tt); is = refl };
    })

pub larger_met : Met 4 larger largest_first largest_last
unfolding history_by answers_by verdict
larger_met =
    met 4 larger largest_first largest_last
    (record {
      fit = all_fit_larger;
      billed = (all_billed.larger, all_billed.largest_first, all_billed.largest_last);
      first = opener (bill_of (opens 56 18)) 1 1;
      opened = refl;
      opens = refl;
      no_fee = refl;
      no_minimum = refl;
      each_joins = (λ _. tt, (λ _. tt, (λ _. tt, tt)));
      each_joins_other = (λ _. tt, (λ _. tt, (λ _. tt, tt)));
      stand = refl;
      stand_other = refl;
      same_joiners = record { moves = (0, 2) ∷ []; below = (lit< tt, lit< tt, tt); is = refl };
    })
