-- The cases of specs/Cases/Accounts.antt hold.
use Rattle.std.specs.Prelude.{◌≡◌, refl, List, [], ◌∷◌, Ok}
use Rattle.std.proofs.Common.{sym, ap, subst}
use Rattle.charge.specs.Price.{price_of, Pricing}
use Rattle.charge.specs.Cases.MarkedFigures.{slip_book, scheme_request, scheme_bill, scheme_bills}
use Rattle.ledger.specs.Books.{Books}
use Rattle.calls.specs.Verdict.{verdict}
use Rattle.calls.specs.Decision.{pay_out, hand_over, Decision}
use Rattle.history.specs.History.{History, history_from, answers_from, no_history, history_of}
use Rattle.history.proofs.Cases.DecidedCalls.{priced_as, called_as, history_by, answers_by}
use Rattle.history.proofs.Cases.PricedCalls.{priced_requests}
use Rattle.history.specs.Cases.Accounts.{marked_calls, HistoryIs, MarkedHistory}

-- the same, by what pricing answers of the four requests
abbrev rules : Pricing → Pricing → Pricing → Pricing → List (Books → Decision)
rules opening joining other last =
    priced_as opening ∷
    priced_as joining ∷
    priced_as other ∷
    priced_as last ∷
    priced_as other ∷
    called_as (pay_out 1 1000000) ∷
    called_as (pay_out 2 493335) ∷
    called_as (hand_over 2 4712) ∷
    []

abbrev billed : List (Books → Decision)
billed =
    rules (Ok (scheme_bill 6000000 24315 10000 0)) (Ok (scheme_bill 1039630 24315 5000 1)) (Ok (scheme_bill 5000001 24315 10000 0))
    (Ok (scheme_bill 1039630 24398 5000 1))

unfoldable pub marked_by_bills : History
marked_by_bills = history_by 4 no_history billed

rules_priced : rules (price_of slip_book (scheme_request 6000000 24315 10000 0)) (price_of slip_book (scheme_request 1039630 24315 5000 1))
    (price_of slip_book (scheme_request 5000001 24315 10000 0)) (price_of slip_book (scheme_request 1039630 24398 5000 1))
    ≡ billed
rules_priced = λ i. rules (scheme_bills.opening i) (scheme_bills.joining i) (scheme_bills.above_threshold i) (priced_requests.marked_last i)

pub marked_by_bills_lem : history_of 4 marked_calls ≡ marked_by_bills
unfolding history_from history_by marked_by_bills
marked_by_bills_lem = ap (history_by 4 no_history) rules_priced

account_cases : HistoryIs marked_by_bills (answers_by 4 no_history billed)
unfolding marked_by_bills history_by answers_by verdict
account_cases =
    record {
      balanced =
          record {
            collected_whole = refl;
            collected_credited = refl;
            credited_parties = refl;
            paid_parties = refl;
            cost_borne = refl;
          };
      marked_scheme = refl;
      other_scheme = refl;
      never_opened = refl;
      parties = refl;
      entered = refl;
      paid = refl;
      handed = refl;
      month = refl;
      next_scheme = refl;
      next_entry = refl;
      opened_times = refl;
      made_times = refl;
      sums = refl;
      books = refl;
      ledger = refl;
      table = refl;
      answered = refl;
    }

pub marked_history : MarkedHistory
unfolding history_from answers_from history_by answers_by marked_by_bills
marked_history =
    subst (λ (made : List (Books → Decision)). HistoryIs (history_by 4 no_history made) (answers_by 4 no_history made)) (sym rules_priced) account_cases
