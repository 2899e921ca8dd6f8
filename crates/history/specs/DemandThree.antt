-- Demand 3: what holds after every list of calls. Each line is held against the history of the calls alone.
use Rattle.std.specs.Prelude.{ℕ, ◌+◌, ◌*◌, ◌<◌, ◌≤◌, ◌≡◌, List, [], ◌∷◌, length, take}
use Rattle.tagged.specs.Refusals.{ledger_unsound}
use Rattle.ledger.specs.Limits.{most_schemes, most_entries}
use Rattle.ledger.specs.Lists.{sum_by, All}
use Rattle.ledger.specs.Records.{new_ledger}
use Rattle.ledger.specs.declared.records.Party.{Party}
use Rattle.calls.specs.Decision.{Call, CallAnswer, is_accepted, is_done, is_refused}
use Rattle.calls.specs.Carried.{State}
use Rattle.calls.specs.Calls.{state_of, Trace, AllFit}
use Rattle.history.specs.Fair.{BoundFigures, Fair}
use Rattle.history.specs.History.{Entering, Account, History, account_of, cost, fee, joinings, collected, fees, credited, paid_of, standing_credits, capacity, put_ins, credited_to, paid_to, charged, borne, cost_entered, cleared_collected, cleared_paid_out, cleared_fees, openings, times, ledger_in, parties_in, history_of, answers_of, table_after}

-- A scheme's accounts.
pub record Balanced (account : Account) : Type 0 where
  -- "contributions collected = paid out + standing credits + fees"
  pub collected_whole : collected account.entered ≡ paid_of account.paid + standing_credits account + fees account.entered
  -- `standing` subtracts over natural numbers, and hides nothing: by this line and the one above paid out and standing come to credited, so that no pay-out
  -- is above what was credited
  pub collected_credited : collected account.entered ≡ credited account.entered + fees account.entered
  -- what the scheme credited and paid out, its parties were credited and paid out
  pub credited_parties : credited account.entered ≡ sum_by (λ e. credited_to e.entry account.entered) account.entered
  pub paid_parties : paid_of account.paid ≡ sum_by (λ e. paid_to e.entry account.paid) account.entered
  -- "Scheme cost + fees = the sum over its parties of what each put in less what it was credited", without a difference
  pub cost_borne :
      cost account.entered + fees account.entered + sum_by (λ e. credited_to e.entry account.entered) account.entered
      ≡ put_ins account.entered

-- What the bounds of the party that entered with e are made of, over its scheme's enterings.
abbrev pub bound_figures : List Entering → Entering → BoundFigures
bound_figures entered e =
    record {
      cost = cost entered;
      fee = fee entered;
      joinings = joinings entered;
      total_capacity = capacity entered;
      capacity = e.bill.applicant.capacity;
      put_in = e.put_in;
      credited = credited_to e.entry entered;
    }

-- A party's bounds: its part against scheme cost × its kVA / all parties' kVA, multiplied out.
pub record PartyHolds (account : Account) (e : Entering) : Type 0 where
  pub fair : Fair (bound_figures account.entered e)
  pub some_capacity : 1 ≤ e.bill.applicant.capacity
  pub paid_within : paid_to e.entry account.paid ≤ credited_to e.entry account.entered

-- Numbers fall from the newest on, the next one above all.
abbrev pub Falls : {A : Type 0} → (A → ℕ) → ℕ → List A → Type 0
Falls number next [] = Unit {0}
Falls number next (x ∷ older) = (number x < next) × Falls number (number x) older

-- Each number from 1 up to the next is given once, and no other: how often one was given is a sum of ones.
pub record GivenOnce (next : ℕ) (given : ℕ → ℕ) : Type 0 where
  pub above_0 : 0 < next
  pub once : (n : ℕ) → 1 ≤ n → n < next → given n ≡ 1
  pub none_past : (n : ℕ) → next ≤ n → given n ≡ 0
  pub none_at_0 : given 0 ≡ 0

-- among the schemes that stand and those that were cleared
abbrev pub entries_given : History → ℕ → ℕ
entries_given history n =
    times (λ e. e.entry) n history.entered + sum_by (λ account. times (λ e. e.entry) n account.entered) history.cleared

abbrev pub schemes_given : History → ℕ → ℕ
schemes_given history n =
    times (λ e. e.scheme) n (openings history.entered) + sum_by (λ account. times (λ e. e.scheme) n (openings account.entered)) history.cleared

-- no call is refused with 13
abbrev pub Not13 : CallAnswer → Type 0
Not13 (is_accepted acceptance) = Unit {0}
Not13 is_done = Unit {0}
Not13 (is_refused r) = r.number ≡ ledger_unsound → ⊥

-- of a scheme that was cleared
pub record ClearedHolds (account : Account) : Type 0 where
  pub balanced : Balanced account
  pub parties : All (PartyHolds account) account.entered

-- `room` is the table's length
pub record HoldsAfter (room : ℕ) (history : History) (calls : List Call) (answers : List CallAnswer) (after : State) : Type 0 where
  -- for every number; a scheme that doesn't stand has nothing in its account
  pub balanced : (s : ℕ) → Balanced (account_of s history)
  -- a party is an entry, made by an opening or a joining
  pub parties : All (λ e. PartyHolds (account_of e.scheme history) e) history.entered
  -- and of each scheme that was cleared; "the collected account must balance over those sums as well" (document 02, E8)
  pub cleared_hold : All ClearedHolds history.cleared
  pub cleared_balanced : cleared_collected history ≡ cleared_paid_out history + cleared_fees history
  -- "up to 64 schemes"; "at most 512 and at most the table's length"
  pub schemes_limit : length (openings history.entered) ≤ most_schemes
  pub entries_limit : length history.entered ≤ most_entries
  pub in_table : length history.entered ≤ room
  -- "a lasting number, given from 1 and never given again" (document 02, E8)
  pub schemes_in_order : Falls (λ e. e.scheme) history.next_scheme (openings history.entered)
  pub entries_in_order : Falls (λ e. e.entry) history.next_entry history.entered
  pub schemes_once : GivenOnce history.next_scheme (schemes_given history)
  pub entries_once : GivenOnce history.next_entry (entries_given history)
  -- the scheme of every entry was opened
  pub schemes_opened : All (λ e. times (λ o. o.scheme) e.scheme (openings history.entered) ≡ 1) history.entered
  -- "Over all accepted requests, cost entered = charged to applicants + borne by the company."
  pub reconciled : cost_entered history ≡ charged history + borne history
  -- number, file and place of a refusal and the reconciliation's figures included: each answer, as its ending tells it
  pub answered : answers ≡ answers_of room calls
  pub never_13 : All Not13 answers
  -- "the ledger and the table show the same": the ledger with all 64 places, the next numbers and the sums over what was cleared, and the entries
  pub ledger_shows : after.ledger ≡ ledger_in history
  pub entries_show : take (length history.entered) after.table ≡ parties_in history
  -- its running sums are the sums of G, of pay-outs, and of fee × joinings, over the accounts that were cleared
  pub cleared_shows :
      (after.ledger.cleared_collected ≡ sum_by (λ account. collected account.entered) history.cleared)
      × (after.ledger.cleared_paid_out ≡ sum_by (λ account. paid_of account.paid) history.cleared)
      × (after.ledger.cleared_fees ≡ sum_by (λ account. fee account.entered * joinings account.entered) history.cleared)

-- on the table that was there at the start
pub record ListHolds (start : List Party) (calls : List Call) (answers : List CallAnswer) (after : State) : Type 0 where
  pub holds : HoldsAfter (length start) (history_of (length start) calls) calls answers after
  -- the whole table, call by call
  pub table_shows : after.table ≡ table_after start calls

-- For every table at the start and every list of calls, whatever they answered.
abbrev pub EveryListOfCalls : Type 0
EveryListOfCalls =
    (start : List Party) (calls : List Call) (answers : List CallAnswer) (after : State) → AllFit calls →
    Trace (state_of new_ledger start) calls answers after → ListHolds start calls answers after
