-- The cases of specs/Cases/BuildingOn.antt hold.
use Rattle.std.specs.Prelude.{◌≡◌, refl, List, [], ◌∷◌, Ok}
use Rattle.std.proofs.Common.{sym, subst}
use Rattle.charge.specs.Price.{price_of, Pricing}
use Rattle.ledger.specs.Books.{Books}
use Rattle.calls.specs.Verdict.{verdict}
use Rattle.calls.specs.Decision.{pay_out, Decision}
use Rattle.history.specs.History.{history_from, answers_from, no_history}
use Rattle.history.proofs.Cases.DecidedCalls.{priced_as, called_as, history_by, answers_by}
use Rattle.history.specs.Cases.BuildingBooks.{first_terms, second_terms, book_of, building_request, building_bill}
use Rattle.history.proofs.Cases.PricedCalls.{priced_requests}
use Rattle.history.specs.Cases.BuildingOn.{BuiltOn, BuiltOnHistory}

-- the same, by what pricing answers of the four requests
abbrev rules : Pricing → Pricing → Pricing → Pricing → List (Books → Decision)
rules opening building first second = priced_as opening ∷ priced_as building ∷ priced_as first ∷ priced_as second ∷ called_as (pay_out 3 2499993) ∷ []

abbrev billed : List (Books → Decision)
billed =
    rules (Ok (building_bill first_terms 6000000 10000 0)) (Ok (building_bill second_terms 5000001 5000 1)) (Ok (building_bill first_terms 0 5000 1))
    (Ok (building_bill first_terms 0 5000 2))

rules_priced : rules (price_of (book_of first_terms) (building_request 6000000 10000 0)) (price_of (book_of second_terms) (building_request 5000001 5000 1))
    (price_of (book_of first_terms) (building_request 0 5000 1)) (price_of (book_of first_terms) (building_request 0 5000 2))
    ≡ billed
rules_priced =
    λ i. rules (priced_requests.first_opening i) (priced_requests.building_on i) (priced_requests.joins_first i) (priced_requests.joins_second i)

built_on_cases : BuiltOn (history_by 5 no_history billed) (answers_by 5 no_history billed)
unfolding history_by answers_by verdict
built_on_cases =
    record {
      joined_balanced =
          record { collected_whole = refl; collected_credited = refl; credited_parties = refl; paid_parties = refl; cost_borne = refl };
      built_balanced = record { collected_whole = refl; collected_credited = refl; credited_parties = refl; paid_parties = refl; cost_borne = refl };
      joined_scheme = refl;
      built_scheme = refl;
      entered = refl;
      sums = refl;
      ledger = refl;
      table = refl;
      answered = refl;
    }

pub built_on : BuiltOnHistory
unfolding history_from answers_from history_by answers_by
built_on =
    subst (λ (made : List (Books → Decision)). BuiltOn (history_by 5 no_history made) (answers_by 5 no_history made)) (sym rules_priced) built_on_cases
