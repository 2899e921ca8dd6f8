-- M7 as a history from bytes: its opening and its two joinings, another scheme between them, then a pay-out and a hand-over, and calls that are refused.
-- Every figure of the history stands here as a literal.
use Rattle.std.specs.Prelude.{ℕ, ◌≡◌, Bool, true, false, List, [], ◌∷◌, replicate, None, Option, Some}
use Rattle.tagged.specs.File.{refusal}
use Rattle.charge.specs.Cases.MarkedFigures.{slip_book, scheme_request, scheme_bill}
use Rattle.charge.specs.declared.Bill.{Bill}
use Rattle.ledger.specs.Records.{scheme_of, party_of, no_scheme, new_ledger}
use Rattle.ledger.specs.Books.{SchemeParticulars, EntryParticulars}
use Rattle.calls.specs.Rules.{Credit}
use Rattle.calls.specs.Decision.{Call, accept, pay_out, hand_over, CallAnswer, is_accepted, is_done, is_refused}
use Rattle.calls.specs.declared.answers.JoiningAnswer.{JoiningAnswer}
use Rattle.calls.specs.declared.answers.JoiningAnswer.TheVariants.{NotAsked, Joined}
use Rattle.history.specs.History.{Entering, History, Account, account_of, cost, fee, joinings, collected, fees, credited, paid_of, standing_credits, capacity, put_ins, credited_to, paid_to, person_of, connections, charged, borne, cost_entered, openings, times, books_in, ledger_in, parties_in, history_of, answers_of}
use Rattle.history.specs.DemandThree.{Balanced}

-- ---- the calls, on a table of four records

-- an accept by the slip's book, with threshold 5,000,000, fee and minimum 20,000 and a term of 84 months: X, month, capacity and scheme joined; a joiner's X
-- is below the threshold
abbrev accepting : ℕ → ℕ → ℕ → ℕ → Call
accepting x month capacity scheme = accept slip_book (scheme_request x month capacity scheme)

abbrev pub marked_calls : List Call
marked_calls =
    accepting 6000000 24315 10000 0 ∷
    accepting 1039630 24315 5000 1 ∷
    accepting 5000001 24315 10000 0 ∷
    accepting 1039630 24398 5000 1 ∷
    -- a month before the last accepted
    accepting 5000001 24315 10000 0 ∷
    pay_out 1 1000000 ∷
    -- a cent above the standing credit
    pay_out 2 493335 ∷
    hand_over 2 4712 ∷
    []

-- ---- the rows

-- the figures of a scheme
pub record SchemeFigures : Type 0 where
  pub cost : ℕ
  pub fee : ℕ
  pub joinings : ℕ
  pub collected : ℕ
  pub fees : ℕ
  pub credited : ℕ
  pub paid_out : ℕ
  pub standing_credits : ℕ
  pub capacity : ℕ
  pub put_ins : ℕ

abbrev pub scheme_figures : Account → SchemeFigures
scheme_figures account =
    record {
      cost = cost account.entered;
      fee = fee account.entered;
      joinings = joinings account.entered;
      collected = collected account.entered;
      fees = fees account.entered;
      credited = credited account.entered;
      paid_out = paid_of account.paid;
      standing_credits = standing_credits account;
      capacity = capacity account.entered;
      put_ins = put_ins account.entered;
    }

-- credited, paid out and person of entries 1 to 4, which are of schemes 1, 1, 2 and 1
abbrev pub party_figures : History → List (ℕ × ℕ × ℕ)
party_figures history = of 1 1 ∷ of 2 1 ∷ of 3 2 ∷ of 4 1 ∷ []
  where
    of : ℕ → ℕ → ℕ × ℕ × ℕ
    of entry scheme =
        (credited_to entry (account_of scheme history).entered, paid_to entry (account_of scheme history).paid, person_of entry 4711 history.handed)

abbrev pub enters : ℕ → ℕ → ℕ → Bool → Bill → List Credit → Entering
enters scheme entry put_in opens bill credits =
    record { scheme = scheme; entry = entry; put_in = put_in; opens = opens; bill = bill; credits = credits }

abbrev pub credit : ℕ → ℕ → Credit
credit entry amount = record { entry = entry; amount = amount }

abbrev scheme_particulars : ℕ → ℕ → SchemeParticulars
scheme_particulars number cost = record { number = number; cost = cost; fee = 20000; minimum = 20000; opening = 24315; term = 84 }

abbrev entry_particulars : ℕ → ℕ → ℕ → ℕ → ℕ → EntryParticulars
entry_particulars number scheme capacity credited paid_out =
    record { number = number; scheme = scheme; capacity = capacity; credited = credited; paid_out = paid_out }

abbrev pub accepted : Bill → JoiningAnswer → Option ℕ → CallAnswer
accepted bill joining opening = is_accepted (record { reconciliation = bill.reconciliation; joining = joining; opening = opening })

abbrev pub joined : ℕ → ℕ → JoiningAnswer
joined entry G = Joined (record { entry = entry; contribution = G })

pub record HistoryIs (history : History) (answers : List CallAnswer) : Type 0 where
  -- 3,500,000 collected = 1,000,000 paid out + 2,460,000 standing + 40,000 fees
  pub balanced : Balanced (account_of 1 history)
  pub marked_scheme :
      scheme_figures (account_of 1 history)
      ≡ record {
        cost = 6000000;
        fee = 20000;
        joinings = 2;
        collected = 3500000;
        fees = 40000;
        credited = 3460000;
        paid_out = 1000000;
        standing_credits = 2460000;
        capacity = 20000;
        put_ins = 9500000;
      }
  pub other_scheme :
      scheme_figures (account_of 2 history)
      ≡ record {
        cost = 5000001;
        fee = 20000;
        joinings = 0;
        collected = 0;
        fees = 0;
        credited = 0;
        paid_out = 0;
        standing_credits = 0;
        capacity = 10000;
        put_ins = 5000001;
      }
  pub never_opened :
      scheme_figures (account_of 3 history)
      ≡ record {
        cost = 0;
        fee = 0;
        joinings = 0;
        collected = 0;
        fees = 0;
        credited = 0;
        paid_out = 0;
        standing_credits = 0;
        capacity = 0;
        put_ins = 0;
      }
  pub parties : party_figures history ≡ (2966666, 1000000, 4711) ∷ (493334, 0, 4712) ∷ (0, 0, 4711) ∷ (0, 0, 4711) ∷ []
  pub entered :
      history.entered
      ≡ enters 1 4 1500000 false (scheme_bill 1039630 24398 5000 1) (credit 1 986666 ∷ credit 2 493334 ∷ []) ∷
      enters 2 3 5000001 true (scheme_bill 5000001 24315 10000 0) [] ∷
      enters 1 2 2000000 false (scheme_bill 1039630 24315 5000 1) (credit 1 1980000 ∷ []) ∷
      enters 1 1 6000000 true (scheme_bill 6000000 24315 10000 0) [] ∷
      []
  pub paid : history.paid ≡ record { scheme = 1; entry = 1; amount = 1000000 } ∷ []
  pub handed : history.handed ≡ record { entry = 2; person = 4712 } ∷ []
  pub month : history.month ≡ 24398
  pub next_scheme : history.next_scheme ≡ 3
  pub next_entry : history.next_entry ≡ 5
  -- schemes 0 to 3, entries 0, 1, 4 and 5
  pub opened_times :
      times (λ e. e.scheme) 0 (openings history.entered) ∷
      times (λ e. e.scheme) 1 (openings history.entered) ∷
      times (λ e. e.scheme) 2 (openings history.entered) ∷
      times (λ e. e.scheme) 3 (openings history.entered) ∷
      []
      ≡ 0 ∷ 1 ∷ 1 ∷ 0 ∷ []
  pub made_times :
      times (λ e. e.entry) 0 history.entered ∷
      times (λ e. e.entry) 1 history.entered ∷
      times (λ e. e.entry) 4 history.entered ∷
      times (λ e. e.entry) 5 history.entered ∷
      []
      ≡ 0 ∷ 1 ∷ 1 ∷ 0 ∷ []
  -- four accepted requests
  pub sums : connections history ∷ charged history ∷ borne history ∷ cost_entered history ∷ [] ≡ 4 ∷ 13511261 ∷ 2235480 ∷ 15746741 ∷ []
  pub books :
      books_in 4 history
      ≡ record {
        connections = 4;
        month = 24398;
        next_scheme = 3;
        next_entry = 5;
        room = 4;
        schemes = scheme_particulars 1 6000000 ∷ scheme_particulars 2 5000001 ∷ [];
        entries = entry_particulars 1 1 10000 2966666 1000000 ∷ entry_particulars 2 1 5000 493334 0 ∷ entry_particulars 3 2 10000 0 0 ∷ entry_particulars 4 1 5000 0 0 ∷ [];
      }
  pub ledger :
      ledger_in history
      ≡ record new_ledger {
        month = 24398;
        connections = 4;
        charged = 13511261;
        borne = 2235480;
        next_scheme = 3;
        next_entry = 5;
        entries = 4;
        count = 2;
        schemes = scheme_of 1 6000000 20000 20000 24315 84 40000 ∷ scheme_of 2 5000001 20000 20000 24315 84 0 ∷ replicate 62 no_scheme;
      }
  pub table :
      parties_in history
      ≡ party_of 1 1 4711 10000 6000000 2966666 1000000 ∷
      party_of 2 1 4712 5000 2000000 493334 0 ∷
      party_of 3 2 4711 10000 5000001 0 0 ∷
      party_of 4 1 4711 5000 1500000 0 0 ∷
      []
  pub answered :
      answers
      ≡ accepted (scheme_bill 6000000 24315 10000 0) NotAsked (Some 1) ∷
      accepted (scheme_bill 1039630 24315 5000 1) (joined 2 2000000) None ∷
      accepted (scheme_bill 5000001 24315 10000 0) NotAsked (Some 2) ∷
      accepted (scheme_bill 1039630 24398 5000 1) (joined 4 1500000) None ∷
      is_refused (refusal 7 0 0) ∷
      is_done ∷
      is_refused (refusal 12 0 0) ∷
      is_done ∷
      []

abbrev pub MarkedHistory : Type 0
MarkedHistory = HistoryIs (history_of 4 marked_calls) (answers_of 4 marked_calls)
