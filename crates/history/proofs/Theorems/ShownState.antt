-- Every call on a state that shows a history is answered as the history answers it, and leaves what shows the history with the call.
use Rattle.std.specs.Prelude.{ℕ, ◌≤◌, ◌≡◌, refl, List, true, cond, length}
use Rattle.std.proofs.Common.{sym, ap, subst, ◌∙◌, arith}
use Rattle.std.proofs.Math.Path.{ap₂}
use Rattle.std.proofs.lemmas.List.{length-replicate}
use Rattle.tagged.specs.File.{refusal}
use Rattle.tagged.specs.Refusals.{ledger_unsound}
use Rattle.ledger.specs.Limits.{most_schemes}
use Rattle.ledger.specs.Records.{no_scheme, new_ledger}
use Rattle.ledger.specs.Lists.{at_start}
use Rattle.ledger.specs.Sound.{sound}
use Rattle.ledger.proofs.Theorems.Sound.{new_ledger_sound}
use Rattle.ledger.specs.Books.{Books}
use Rattle.ledger.specs.declared.records.Party.{Party}
use Rattle.calls.specs.Decision.{Call, refused, decided, answer_to}
use Rattle.calls.specs.Carried.{State, books_on, carried_out}
use Rattle.calls.specs.Calls.{state_of, decided_on, answered, leaves, Fits}
use Rattle.calls.proofs.Theorems.ByPlace.{length_at_start}
use Rattle.kept_sound.proofs.Theorems.KeptSound.{call_keeps_sound, leaves_length}
use Rattle.kept_sound.proofs.Theorems.AtStart.{at_start_again}
use Rattle.history.specs.History.{History, openings, books_in, schemes_in, scheme_in, ledger_in, parties_in, with_call, answer_by, no_history}
use Rattle.history.specs.ShownState.{state_in, HistoryStands, ShownState}
use Rattle.history.specs.CallSteps.{Step}
use Rattle.history.proofs.Theorems.SoundHistory.{sound_none}
use Rattle.history.proofs.Theorems.Numbering.{length_shown}
use Rattle.history.proofs.Theorems.Shows.{books_shown}
use Rattle.history.proofs.Theorems.CallSteps.{within_none, step}

pub shown_new : (start : List Party) → ShownState (length start) no_history (state_of new_ledger start)
shown_new start =
    record {
      shows = refl;
      long = refl;
      history = record { sound = sound_none; within = within_none (length start) };
      stands = new_ledger_sound start (length start);
    }

-- ---- one call
module _ (room : ℕ) (h : History) (state : State) (shown : ShownState room h state) where
  -- the entries stand at the start of the table
  pub shown_whole : at_start (parties_in h) state.table ≡ state.table
  shown_whole = sym (ap (λ (state : State). state.table) shown.shows)

  within : length h.entered ≤ length state.table
  within = omega (arith, shown.history.within.in_table, shown.long)

  pub shown_places : length state.ledger.schemes ≡ most_schemes
  shown_places =
      ap (λ (state : State). length state.ledger.schemes) shown.shows
      ∙ length_at_start (schemes_in h) new_ledger.schemes
      (omega (arith, length_shown (scheme_in h) (openings h.entered), shown.history.within.schemes_limit, length-replicate most_schemes no_scheme))
      ∙ length-replicate most_schemes no_scheme

  shown_books : books_on state ≡ books_in room h
  shown_books = ap books_on shown.shows ∙ books_shown state.table h within ∙ ap (λ (room : ℕ). books_in room h) shown.long

  -- 13 doesn't come up, and the rules read the same
  shown_decision : (call : Call) → decided_on state call ≡ decided (books_in room h) call
  shown_decision call =
      ap (λ sound. cond sound (decided (books_on state) call) (refused (refusal ledger_unsound 0 0))) shown.stands
      ∙ ap (λ (books : Books). decided books call) shown_books

  pub shown_answer : (call : Call) → answered state call ≡ answer_by room h call
  unfolding answered
  shown_answer call = ap₂ answer_to shown_books (shown_decision call)

  made : (call : Call) → Fits call → Step state.table h (decided (books_in room h) call)
  made call fits =
      subst (λ (room : ℕ). Step state.table h (decided (books_in room h) call)) shown.long
      (step state.table h (subst (λ (room : ℕ). HistoryStands room h) (sym shown.long) shown.history) shown_whole call fits)

  pub call_shown : (call : Call) → Fits call → leaves state call ≡ state_in state.table (with_call room h call)
  unfolding leaves
  call_shown call fits = ap₂ carried_out shown.shows (shown_decision call) ∙ (made call fits).shows

  pub shown_step : (call : Call) → Fits call → ShownState room (with_call room h call) (leaves state call)
  shown_step call fits =
      let after = with_call room h call in
      let left = call_shown call fits in
      let stands : HistoryStands room after = subst (λ (room : ℕ). HistoryStands room after) shown.long (made call fits).stands in
      let long : length (leaves state call).table ≡ length state.table = leaves_length state call shown_places in
      let table : (leaves state call).table ≡ at_start (parties_in after) state.table = ap (λ (state : State). state.table) left in
      record {
        shows =
            left
            ∙ ap (state_of (ledger_in after))
            (sym (ap (at_start (parties_in after)) table ∙ at_start_again (parties_in after) (parties_in after) state.table (omega arith)));
        long = long ∙ shown.long;
        history = stands;
        stands =
            subst (λ (room : ℕ). sound (leaves state call).ledger (leaves state call).table room ≡ true) (sym long)
            (call_keeps_sound state call shown_places fits shown.stands);
      }
