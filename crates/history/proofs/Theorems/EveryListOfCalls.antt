-- Demand 3: after every list of accept, pay-out, hand-over and clearing calls from a new ledger on one party table, refused calls among them.
use Rattle.std.specs.Prelude.{ℕ, ◌≡◌, refl, List, [], ◌∷◌, length, take}
use Rattle.std.proofs.Common.{sym, ap, ap₂, subst, ◌∙◌}
use Rattle.ledger.specs.Lists.{All, nil, more, at_start}
use Rattle.ledger.specs.Records.{new_ledger}
use Rattle.ledger.proofs.Theorems.Sound.{sound_means}
use Rattle.ledger.specs.declared.records.Party.{Party}
use Rattle.ledger.specs.declared.records.Ledger.{Ledger}
use Rattle.calls.specs.Decision.{Call, CallAnswer}
use Rattle.calls.specs.Carried.{State}
use Rattle.calls.specs.Calls.{state_of, answered, leaves, Trace, AllFit}
use Rattle.calls.proofs.Theorems.Lists.{all_by_key, all_map}
use Rattle.calls.specs.Calls as calling
use Rattle.calls.proofs.Theorems.Promised.{promised_answers, promise_from}
use Rattle.history.specs.History.{Entering, Account, History, account_of, books_in, ledger_in, parties_in, with_call, answer_by, history_from, answers_from, history_of, table_from}
use Rattle.history.specs.DemandThree.{PartyHolds, ClearedHolds, Not13, EveryListOfCalls}
use Rattle.history.specs.SoundHistory.{ClearedAccount}
use Rattle.history.proofs.Theorems.SoundAccount.{balanced, parties_hold}
use Rattle.history.proofs.Theorems.SoundHistory.{numbered_in, schemes_opened}
use Rattle.history.proofs.Theorems.Shows.{entries_on_lem}
use Rattle.history.proofs.Theorems.NeverUnsound.{decided_not_13}
use Rattle.history.specs.ShownState.{ShownState}
use Rattle.history.proofs.Theorems.ShownState.{shown_new, shown_answer, call_shown, shown_step}

record After (room : ℕ) (h : History) (table : List Party) (calls : List Call) (answers : List CallAnswer) (after : State) : Type 0 where
  shown : ShownState room (history_from room h calls) after
  answers_are : answers ≡ answers_from room h calls
  not_13 : All Not13 answers
  table_is : after.table ≡ table_from h table calls

after_trace : {room : ℕ} {h : History} {calls : List Call} {answers : List CallAnswer} {state after : State} → ShownState room h state →
    AllFit calls → Trace state calls answers after → After room h state.table calls answers after
unfolding history_from answers_from table_from
after_trace shown fit calling.none = record { shown = shown; answers_are = refl; not_13 = nil; table_is = refl }
after_trace {room} {h} {state = state} shown fit (calling.more {between} {call} {calls} promise trace) =
    let first : _ ≡ answer_by room h call = promised_answers _ _ _ _ promise ∙ shown_answer room h state shown call in
    let now = with_call room h call in
    let next : ShownState room now between = subst (ShownState room now) (sym promise.leaving) (shown_step room h state shown call fit.0) in
    let later = after_trace {h = now} next fit.1 trace in
    let table : between.table ≡ at_start (parties_in now) state.table =
    ap (λ (state : State). state.table) (promise.leaving ∙ call_shown room h state shown call fit.0) in
    record {
      shown = later.shown;
      answers_are = ap₂ (λ (one : CallAnswer) (others : List CallAnswer). one ∷ others) first later.answers_are;
      not_13 = more (subst Not13 (sym first) (decided_not_13 (books_in room h) call)) later.not_13;
      table_is =
          later.table_is
          ∙ ap (λ (table : List Party). table_from now table calls) table
          ∙ ap (λ (room : ℕ). let now = with_call room h call in table_from now (at_start (parties_in now) state.table) calls) (sym shown.long);
    }

pub shown_state : (start : List Party) (calls : List Call) (answers : List CallAnswer) (after : State) → AllFit calls →
    Trace (state_of new_ledger start) calls answers after → ShownState (length start) (history_of (length start) calls) after
shown_state start calls answers after fit trace = (after_trace (shown_new start) fit trace).shown

-- of a scheme that was cleared
cleared_holds : (account : Account) → ClearedAccount account → ClearedHolds account
cleared_holds account was =
    record {
      balanced = balanced was.next account was.in_order was.sound;
      parties = parties_hold was.next account was.in_order was.sound;
    }

pub every_list_of_calls : EveryListOfCalls
every_list_of_calls start calls answers after fit trace =
    let end = after_trace (shown_new start) fit trace in
    let h = history_of (length start) calls in
    let sound = end.shown.history.sound in
    let within = end.shown.history.within in
    let ledger : after.ledger ≡ ledger_in h = ap (λ (state : State). state.ledger) end.shown.shows in
    record {
      holds =
          record {
            balanced = λ s. balanced h.next_entry (account_of s h) (numbered_in h sound s) (sound.accounts s);
            parties =
                all_by_key (λ (s : ℕ) (e : Entering). PartyHolds (account_of s h) e) (λ (e : Entering). e.scheme) h.entered
                (λ s. parties_hold h.next_entry (account_of s h) (numbered_in h sound s) (sound.accounts s));
            cleared_hold = all_map cleared_holds sound.cleared_sound;
            cleared_balanced =
                rw ledger at (sound_means after.ledger after.table (length after.table) end.shown.stands).numbers.cleared_account;
            schemes_limit = within.schemes_limit;
            entries_limit = within.entries_limit;
            in_table = within.in_table;
            schemes_in_order = sound.numbers.schemes_in_order;
            entries_in_order = sound.numbers.entries_in_order;
            schemes_once = sound.numbers.schemes_once;
            entries_once = sound.numbers.entries_once;
            schemes_opened = schemes_opened h sound;
            reconciled = sound.bills_add_up;
            answered = end.answers_are;
            never_13 = end.not_13;
            ledger_shows = ledger;
            entries_show =
                ap (λ (state : State). take (length h.entered) state.table) end.shown.shows
                ∙ entries_on_lem after.table h;
            cleared_shows =
                (ap (λ (l : Ledger). l.cleared_collected) ledger, ap (λ (l : Ledger). l.cleared_paid_out) ledger, ap (λ (l : Ledger). l.cleared_fees) ledger);
          };
      table_shows = end.table_is;
    }

-- every list of calls has a trace, from any ledger and table
pub trace_exists : (state : State) (calls : List Call) → (answers : List CallAnswer) × (after : State) × Trace state calls answers after
trace_exists state [] = ([], state, calling.none)
trace_exists state (call ∷ calls) =
    let later = trace_exists (leaves state call) calls in
    (answered state call ∷ later.0, later.1, calling.more (promise_from refl refl) later.2)
