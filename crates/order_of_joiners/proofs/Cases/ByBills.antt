-- The histories of specs/Cases/OrdersDiffer.antt by their bills, where every request is priced.
use Rattle.std.specs.Prelude.{ℕ, ◌≡◌, refl, List, [], ◌∷◌, ◌++◌, map, filter_map, Ok}
use Rattle.std.specs.List.{cons_option}
use Rattle.std.proofs.Common.{ap, ◌∙◌}
use Rattle.charge.specs.Price.{Pricing}
use Rattle.charge.specs.declared.Bill.{Bill}
use Rattle.ledger.specs.Lists.{All, nil, more}
use Rattle.ledger.specs.Books.{Books}
use Rattle.calls.specs.Decision.{pay_out, clear, Decision, accept_by, answer_to}
use Rattle.history.specs.History.{History, books_in, recorded, history_from, answers_from, no_history, history_of}
use Rattle.history.specs.Cases.BuildingBooks.{building_bill}
use Rattle.history.proofs.Cases.DecidedCalls.{priced_as, history_by, answers_by}
use Rattle.order_of_joiners.specs.Orders.{joiner_by, joiners}
use Rattle.order_of_joiners.specs.Cases.OrdersDiffer.{Asking, opens, joins, free_terms, calls_of, small, one_then_six, six_then_one, larger, largest_first, largest_last, beside_another, cleared_calls, line, one_way, other_way}
use Rattle.calls.proofs.Theorems.Lists.{all_append}
use Rattle.order_of_joiners.proofs.Theorems.TwoOrders.{history_append}
use Rattle.order_of_joiners.proofs.Cases.PricedJoinings.{Billed, priced_joinings}

abbrev pub bill_of : Asking → Bill
bill_of a = building_bill free_terms a.x a.capacity a.scheme

abbrev pub rules_of : List Asking → List (Books → Decision)
rules_of asked = map (λ a. priced_as (Ok (bill_of a))) asked

pub history_by_bills : (room : ℕ) (h : History) {asked : List Asking} → All Billed asked → history_from room h (calls_of asked) ≡ history_by room h (rules_of asked)
unfolding history_from history_by
history_by_bills room h nil = refl
history_by_bills room h (more {x = a} {xs = asked} billed others) =
    ap (λ (pricing : Pricing). history_from room (recorded h (accept_by (books_in room h) pricing)) (calls_of asked)) billed
    ∙ history_by_bills room (recorded h (accept_by (books_in room h) (Ok (bill_of a)))) others

pub answers_by_bills : (room : ℕ) (h : History) {asked : List Asking} → All Billed asked → answers_from room h (calls_of asked) ≡ answers_by room h (rules_of asked)
unfolding answers_from answers_by
answers_by_bills room h nil = refl
answers_by_bills room h (more {x = a} {xs = asked} billed others) =
    ap
    (λ (pricing : Pricing).
    answer_to (books_in room h) (accept_by (books_in room h) pricing) ∷ answers_from room (recorded h (accept_by (books_in room h) pricing)) (calls_of asked)) billed
    ∙ ap (λ answers. answer_to (books_in room h) (accept_by (books_in room h) (Ok (bill_of a))) ∷ answers)
    (answers_by_bills room (recorded h (accept_by (books_in room h) (Ok (bill_of a)))) others)

pub joiners_by_bills : (s : ℕ) {asked : List Asking} → All Billed asked → joiners s (calls_of asked) ≡ filter_map (λ a. joiner_by s (Ok (bill_of a))) asked
joiners_by_bills s nil = refl
joiners_by_bills s (more {x = a} {xs = asked} billed others) =
    ap (λ (pricing : Pricing). cons_option (joiner_by s pricing) (joiners s (calls_of asked))) billed
    ∙ ap (cons_option (joiner_by s (Ok (bill_of a)))) (joiners_by_bills s others)

-- ---- each list of requests priced
module _ {later : List Asking} where
  opens_small : All Billed later → All Billed (opens 3 3 ∷ later)
  opens_small = more {x = opens 3 3} priced_joinings.small

  opens_larger : All Billed later → All Billed (opens 56 18 ∷ later)
  opens_larger = more {x = opens 56 18} priced_joinings.larger

  opens_line : All Billed later → All Billed (opens 953383014 2 ∷ later)
  opens_line = more {x = opens 953383014 2} priced_joinings.line

  one : All Billed later → All Billed (joins 1 1 ∷ later)
  one = more {x = joins 1 1} priced_joinings.one

  one_of_another : All Billed later → All Billed (joins 1 2 ∷ later)
  one_of_another = more {x = joins 1 2} priced_joinings.one_of_another

  two : All Billed later → All Billed (joins 2 1 ∷ later)
  two = more {x = joins 2 1} priced_joinings.two

  three : All Billed later → All Billed (joins 3 1 ∷ later)
  three = more {x = joins 3 1} priced_joinings.three

  six : All Billed later → All Billed (joins 6 1 ∷ later)
  six = more {x = joins 6 1} priced_joinings.six

  sixty_six : All Billed later → All Billed (joins 66 1 ∷ later)
  sixty_six = more {x = joins 66 1} priced_joinings.sixty_six

  kva_131637 : All Billed later → All Billed (joins 131637 1 ∷ later)
  kva_131637 = more {x = joins 131637 1} priced_joinings.kva_131637

  kva_430225 : All Billed later → All Billed (joins 430225 1 ∷ later)
  kva_430225 = more {x = joins 430225 1} priced_joinings.kva_430225

  kva_728442 : All Billed later → All Billed (joins 728442 1 ∷ later)
  kva_728442 = more {x = joins 728442 1} priced_joinings.kva_728442

  kva_754689 : All Billed later → All Billed (joins 754689 1 ∷ later)
  kva_754689 = more {x = joins 754689 1} priced_joinings.kva_754689

pub record AllBilled : Type 0 where
  pub small : All Billed small
  pub one_then_six : All Billed one_then_six
  pub six_then_one : All Billed six_then_one
  pub larger : All Billed larger
  pub largest_first : All Billed largest_first
  pub largest_last : All Billed largest_last
  pub beside_another : All Billed beside_another
  pub line : All Billed line
  pub one_way : All Billed one_way
  pub other_way : All Billed other_way

pub all_billed : AllBilled
all_billed =
    record {
      small = opens_small nil;
      one_then_six = one (six nil);
      six_then_one = six (one nil);
      larger = opens_larger nil;
      largest_first = sixty_six (one (one nil));
      largest_last = one (one (sixty_six nil));
      beside_another = sixty_six (opens_small (one (one_of_another (one nil))));
      line = opens_line nil;
      one_way = kva_430225 (one (one (one (one (three (two (kva_728442 (kva_754689 (kva_131637 nil)))))))));
      other_way = kva_728442 (kva_430225 (kva_131637 (kva_754689 (three (one (one (one (one (two nil)))))))));
    }

-- with the calls after the joinings
pub cleared_by_bills : history_of 4 cleared_calls ≡ history_from 4 (history_by 4 no_history (rules_of (larger ++ largest_first))) (pay_out 1 44 ∷ clear 24399 ∷ [])
cleared_by_bills =
    history_append 4 no_history (calls_of (larger ++ largest_first)) (pay_out 1 44 ∷ clear 24399 ∷ [])
    ∙ ap (λ (h : History). history_from 4 h (pay_out 1 44 ∷ clear 24399 ∷ []))
    (history_by_bills 4 no_history (all_append all_billed.larger all_billed.largest_first))
