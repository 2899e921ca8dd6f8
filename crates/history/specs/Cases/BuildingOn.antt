-- Document 02, E4: a joiner who builds on, as a history from bytes, by books of different fee, minimum and term. Both schemes are joined later, and each counts the
-- accept by its own answer: entry 3, with which the second scheme opens, is no party of the first. Every figure stands here as a literal.
use Rattle.std.specs.Prelude.{◌≡◌, true, false, List, [], ◌∷◌, replicate, None, Some}
use Rattle.ledger.specs.Records.{scheme_of, party_of, no_scheme, new_ledger}
use Rattle.calls.specs.Decision.{Call, accept, pay_out, CallAnswer, is_done}
use Rattle.calls.specs.declared.answers.JoiningAnswer.TheVariants.{NotAsked}
use Rattle.history.specs.History.{History, account_of, connections, charged, borne, cost_entered, ledger_in, parties_in, history_of, answers_of}
use Rattle.history.specs.DemandThree.{Balanced}
use Rattle.history.specs.Cases.BuildingBooks.{first_terms, second_terms, book_of, building_request, building_bill}
use Rattle.history.specs.Cases.Accounts.{scheme_figures, enters, credit, accepted, joined}

-- on a table of five records: the opening, the joiner who builds on, a later joiner of each scheme, and all that entry 3 was credited paid out
abbrev pub building_calls : List Call
building_calls =
    accept (book_of first_terms) (building_request 6000000 10000 0) ∷
    accept (book_of second_terms) (building_request 5000001 5000 1) ∷
    accept (book_of first_terms) (building_request 0 5000 1) ∷
    accept (book_of first_terms) (building_request 0 5000 2) ∷
    pay_out 3 2499993 ∷
    []

pub record BuiltOn (history : History) (answers : List CallAnswer) : Type 0 where
  pub joined_balanced : Balanced (account_of 1 history)
  pub built_balanced : Balanced (account_of 2 history)
  pub joined_scheme :
      scheme_figures (account_of 1 history)
      ≡ record {
        cost = 6000000;
        fee = 20000;
        joinings = 2;
        collected = 3500000;
        fees = 40000;
        credited = 3460000;
        paid_out = 0;
        standing_credits = 3460000;
        capacity = 20000;
        put_ins = 9500000;
      }
  pub built_scheme :
      scheme_figures (account_of 2 history)
      ≡ record {
        cost = 5000001;
        fee = 7;
        joinings = 1;
        collected = 2500000;
        fees = 7;
        credited = 2499993;
        paid_out = 2499993;
        standing_credits = 0;
        capacity = 10000;
        put_ins = 7500001;
      }
  pub entered :
      history.entered
      ≡ enters 2 5 2500000 false (building_bill first_terms 0 5000 2) (credit 3 2499993 ∷ []) ∷
      enters 1 4 1500000 false (building_bill first_terms 0 5000 1) (credit 1 986666 ∷ credit 2 493334 ∷ []) ∷
      enters 2 3 5000001 true (building_bill second_terms 5000001 5000 1) [] ∷
      enters 1 2 2000000 false (building_bill second_terms 5000001 5000 1) (credit 1 1980000 ∷ []) ∷
      enters 1 1 6000000 true (building_bill first_terms 6000000 10000 0) [] ∷
      []
  -- four connections: the joiner's cost entered, charge and borne sum are counted once
  pub sums : connections history ∷ charged history ∷ borne history ∷ cost_entered history ∷ [] ≡ 4 ∷ 11000001 ∷ 0 ∷ 11000001 ∷ []
  pub ledger :
      ledger_in history
      ≡ record new_ledger {
        month = 24315;
        connections = 4;
        charged = 11000001;
        next_scheme = 3;
        next_entry = 6;
        entries = 5;
        count = 2;
        schemes = scheme_of 1 6000000 20000 20000 24315 84 40000 ∷ scheme_of 2 5000001 7 9 24315 100 7 ∷ replicate 62 no_scheme;
      }
  pub table :
      parties_in history
      ≡ party_of 1 1 4711 10000 6000000 2966666 0 ∷
      party_of 2 1 4711 5000 2000000 493334 0 ∷
      party_of 3 2 4711 5000 5000001 2499993 2499993 ∷
      party_of 4 1 4711 5000 1500000 0 0 ∷
      party_of 5 2 4711 5000 2500000 0 0 ∷
      []
  pub answered :
      answers
      ≡ accepted (building_bill first_terms 6000000 10000 0) NotAsked (Some 1) ∷
      accepted (building_bill second_terms 5000001 5000 1) (joined 2 2000000) (Some 2) ∷
      accepted (building_bill first_terms 0 5000 1) (joined 4 1500000) None ∷
      accepted (building_bill first_terms 0 5000 2) (joined 5 2500000) None ∷
      is_done ∷
      []

abbrev pub BuiltOnHistory : Type 0
BuiltOnHistory = BuiltOn (history_of 5 building_calls) (answers_of 5 building_calls)
