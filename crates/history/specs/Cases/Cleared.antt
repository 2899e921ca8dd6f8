-- Document 02, E8: the joiner who builds on of Cases.BuildingOn, and then scheme 1 cleared once all that entry 1 was credited is paid out, as a history from bytes.
-- Every figure stands here as a literal.
use Rattle.std.specs.Prelude.{◌≡◌, refl, ℕ, true, false, List, [], ◌∷◌, map, replicate, Some}
use Rattle.tagged.specs.File.{refusal}
use Rattle.ledger.specs.Records.{scheme_of, party_of, no_scheme, new_ledger}
use Rattle.ledger.specs.declared.records.Party.{Party}
use Rattle.calls.specs.Decision.{Call, accept, pay_out, hand_over, clear, CallAnswer, is_done, is_refused}
use Rattle.calls.specs.declared.answers.JoiningAnswer.TheVariants.{NotAsked}
use Rattle.history.specs.History.{History, account_of, cleared_collected, cleared_paid_out, cleared_fees, ledger_in, parties_in, no_history, table_from, history_of, answers_of}
use Rattle.history.specs.DemandThree.{entries_given, schemes_given}
use Rattle.history.specs.Cases.BuildingBooks.{first_terms, second_terms, book_of, building_request, building_bill}
use Rattle.history.specs.Cases.Accounts.{scheme_figures, enters, credit, accepted, joined}

-- on a table of four records: a cent of entry 1's credit stands at the first two clearings
abbrev pub cleared_calls : List Call
cleared_calls =
    accept (book_of first_terms) (building_request 6000000 10000 0) ∷
    accept (book_of second_terms) (building_request 5000001 5000 1) ∷
    pay_out 1 1979999 ∷
    clear 24398 ∷
    clear 24399 ∷
    pay_out 1 1 ∷
    clear 24399 ∷
    pay_out 1 0 ∷
    pay_out 3 0 ∷
    clear 24398 ∷
    []

pub record ClearedIs (history : History) (answers : List CallAnswer) : Type 0 where
  pub cleared_once :
      map scheme_figures history.cleared
      ≡ record {
        cost = 6000000;
        fee = 20000;
        joinings = 1;
        collected = 2000000;
        fees = 20000;
        credited = 1980000;
        paid_out = 1980000;
        standing_credits = 0;
        capacity = 15000;
        put_ins = 8000000;
      } ∷
      []
  pub cleared_sums : cleared_collected history ∷ cleared_paid_out history ∷ cleared_fees history ∷ [] ≡ 2000000 ∷ 1980000 ∷ 20000 ∷ []
  pub nothing_stands : (account_of 1 history).entered ≡ []
  pub entered : history.entered ≡ enters 2 3 5000001 true (building_bill second_terms 5000001 5000 1) [] ∷ []
  pub paid : history.paid ≡ record { scheme = 2; entry = 3; amount = 0 } ∷ []
  -- numbers 0 to 4
  pub entries_times : map (entries_given history) (0 ∷ 1 ∷ 2 ∷ 3 ∷ 4 ∷ []) ≡ 0 ∷ 1 ∷ 1 ∷ 1 ∷ 0 ∷ []
  pub schemes_times : map (schemes_given history) (0 ∷ 1 ∷ 2 ∷ 3 ∷ []) ≡ 0 ∷ 1 ∷ 1 ∷ 0 ∷ []
  pub ledger :
      ledger_in history
      ≡ record new_ledger {
        month = 24399;
        connections = 2;
        charged = 11000001;
        next_scheme = 3;
        next_entry = 4;
        cleared_collected = 2000000;
        cleared_paid_out = 1980000;
        cleared_fees = 20000;
        entries = 1;
        count = 1;
        schemes = scheme_of 2 5000001 7 9 24315 100 0 ∷ replicate 63 no_scheme;
      }
  pub entries : parties_in history ≡ party_of 3 2 4711 5000 5000001 0 0 ∷ []
  pub answered :
      answers
      ≡ accepted (building_bill first_terms 6000000 10000 0) NotAsked (Some 1) ∷
      accepted (building_bill second_terms 5000001 5000 1) (joined 2 2000000) (Some 2) ∷
      is_done ∷
      is_done ∷
      is_done ∷
      is_done ∷
      is_done ∷
      is_refused (refusal 11 0 0) ∷
      is_done ∷
      is_refused (refusal 7 0 0) ∷
      []

abbrev pub ClearedHistory : Type 0
ClearedHistory = ClearedIs (history_of 4 cleared_calls) (answers_of 4 cleared_calls)

-- ---- the table, call by call: past the entries that stand what stood there before that call
abbrev standing : History
standing =
    record no_history {
      entered =
          enters 2 3 5000001 true (building_bill second_terms 5000001 5000 1) [] ∷
          enters 1 2 2000000 false (building_bill second_terms 5000001 5000 1) (credit 1 1980000 ∷ []) ∷
          enters 1 1 6000000 true (building_bill first_terms 6000000 10000 0) [] ∷
          [];
      paid = record { scheme = 1; entry = 1; amount = 1980000 } ∷ [];
      month = 24315;
      next_scheme = 3;
      next_entry = 4;
    }

-- a record with every value this
abbrev record_of : ℕ → Party
record_of n = party_of n n n n n n n

abbrev table_cases : List (List Call × List Party)
table_cases =
    let before = record_of 6 ∷ record_of 7 ∷ record_of 8 ∷ record_of 9 ∷ [] in
    let first = party_of 1 1 4711 10000 6000000 1980000 1980000 in
    let second : ℕ → Party = λ person. party_of 2 1 person 5000 2000000 0 0 in
    let third : ℕ → Party = λ person. party_of 3 2 person 5000 5000001 0 0 in
    ([], before) ∷
    (hand_over 2 5 ∷ [], first ∷ second 5 ∷ third 4711 ∷ record_of 9 ∷ []) ∷
    (clear 24399 ∷ [], third 4711 ∷ record_of 7 ∷ record_of 8 ∷ record_of 9 ∷ []) ∷
    (hand_over 2 5 ∷ clear 24399 ∷ [], third 4711 ∷ second 5 ∷ third 4711 ∷ record_of 9 ∷ []) ∷
    (hand_over 2 5 ∷ clear 24399 ∷ hand_over 3 6 ∷ [], third 6 ∷ second 5 ∷ third 4711 ∷ record_of 9 ∷ []) ∷
    -- a refused call leaves the records as the history has them
    (pay_out 4 0 ∷ [], first ∷ second 4711 ∷ third 4711 ∷ record_of 9 ∷ []) ∷
    []

pub table_cases_hold :
    map (λ row. table_from standing (record_of 6 ∷ record_of 7 ∷ record_of 8 ∷ record_of 9 ∷ []) row.0) table_cases ≡ map (λ row. row.1) table_cases
unfolding table_from
table_cases_hold = refl
