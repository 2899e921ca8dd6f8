-- The cases of specs/Cases/Cleared.antt hold.
use Rattle.std.specs.Prelude.{◌≡◌, refl, List, [], ◌∷◌, Ok}
use Rattle.std.proofs.Common.{sym, subst}
use Rattle.charge.specs.Price.{price_of, Pricing}
use Rattle.ledger.specs.Books.{Books}
use Rattle.calls.specs.Verdict.{verdict}
use Rattle.calls.specs.Decision.{pay_out, clear, Decision}
use Rattle.history.specs.History.{history_from, answers_from, no_history}
use Rattle.history.proofs.Cases.DecidedCalls.{priced_as, called_as, history_by, answers_by}
use Rattle.history.specs.Cases.BuildingBooks.{first_terms, second_terms, book_of, building_request, building_bill}
use Rattle.history.proofs.Cases.PricedCalls.{priced_requests}
use Rattle.history.specs.Cases.Cleared.{ClearedIs, ClearedHistory}

-- the same, by what pricing answers of the two requests
abbrev rules : Pricing → Pricing → List (Books → Decision)
rules opening building =
    priced_as opening ∷
    priced_as building ∷
    called_as (pay_out 1 1979999) ∷
    called_as (clear 24398) ∷
    called_as (clear 24399) ∷
    called_as (pay_out 1 1) ∷
    called_as (clear 24399) ∷
    called_as (pay_out 1 0) ∷
    called_as (pay_out 3 0) ∷
    called_as (clear 24398) ∷
    []

abbrev billed : List (Books → Decision)
billed = rules (Ok (building_bill first_terms 6000000 10000 0)) (Ok (building_bill second_terms 5000001 5000 1))

rules_priced : rules (price_of (book_of first_terms) (building_request 6000000 10000 0)) (price_of (book_of second_terms) (building_request 5000001 5000 1)) ≡ billed
rules_priced = λ i. rules (priced_requests.first_opening i) (priced_requests.building_on i)

cleared_cases : ClearedIs (history_by 4 no_history billed) (answers_by 4 no_history billed)
unfolding history_by answers_by verdict
cleared_cases =
    record {
      cleared_once = refl;
      cleared_sums = refl;
      nothing_stands = refl;
      entered = refl;
      paid = refl;
      entries_times = refl;
      schemes_times = refl;
      ledger = refl;
      entries = refl;
      answered = refl;
    }

pub cleared_history : ClearedHistory
unfolding history_from answers_from history_by answers_by
cleared_history =
    subst (λ (made : List (Books → Decision)). ClearedIs (history_by 4 no_history made) (answers_by 4 no_history made)) (sym rules_priced) cleared_cases
