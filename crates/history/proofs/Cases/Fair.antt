-- The cases of specs/Cases/Fair.antt hold.
use Rattle.std.specs.Prelude.{◌≡◌, refl, [], ◌∷◌, Ok}
use Rattle.std.proofs.Common.{sym, subst, arith}
use Rattle.calls.specs.Verdict.{verdict}
use Rattle.history.specs.History.{History, account_of, history_from, no_history, history_of}
use Rattle.history.specs.Cases.CentsBook.{cents_bill}
use Rattle.history.proofs.Cases.DecidedCalls.{priced_as, history_by}
use Rattle.history.proofs.Cases.PricedCalls.{priced_requests}
use Rattle.history.specs.Cases.Accounts.{marked_calls}
use Rattle.history.proofs.Cases.Accounts.{marked_by_bills, marked_by_bills_lem}
use Rattle.history.specs.Cases.Fair.{cents_calls, TightIn, TightBounds}

unfoldable cents_by_bills : History
cents_by_bills =
    history_by 3 no_history (priced_as (Ok (cents_bill 10 19 0)) ∷ priced_as (Ok (cents_bill 0 8 1)) ∷ priced_as (Ok (cents_bill 0 215 1)) ∷ [])

cents_by_bills_lem : history_of 3 cents_calls ≡ cents_by_bills
unfolding history_from history_by cents_by_bills
cents_by_bills_lem =
    λ i.
    history_by 3 no_history
    (priced_as (priced_requests.cents_opening i) ∷ priced_as (priced_requests.cents_joining i) ∷ priced_as (priced_requests.cents_last i) ∷ [])

bound_cases : TightIn (account_of 1 cents_by_bills) (account_of 1 marked_by_bills)
unfolding cents_by_bills marked_by_bills history_by verdict
bound_cases =
    record {
      first_figures = refl;
      second_figures = refl;
      marked_figures = refl;
      first_fair = record { low = omega arith; high = omega arith };
      second_fair = record { low = omega arith; high = omega arith };
      marked_fair = record { low = omega arith; high = omega arith };
      above_one_cent = omega arith;
      above_one_fee = omega arith;
      below_share = omega arith;
      credited_above = omega arith;
    }

pub tight_bounds : TightBounds
tight_bounds =
    subst (λ (h : History). TightIn (account_of 1 h) (account_of 1 (history_of 4 marked_calls))) (sym cents_by_bills_lem)
    (subst (λ (h : History). TightIn (account_of 1 cents_by_bills) (account_of 1 h)) (sym marked_by_bills_lem) bound_cases)
