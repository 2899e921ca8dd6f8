-- What an accept on a stored ledger leaves where it is accepted, and answer and figures have their places.
use Rattle.std.specs.Prelude.{ℕ, ◌≡◌, List, false}
use Rattle.std.proofs.Common.{sym, ap, ◌∙◌}
use Rattle.calls.specs.Decision.{accept}
use Rattle.calls.specs.declared.answers.Acceptance.{Acceptance}
use Rattle.stored_calls.specs.StoredCalls.{StoredCallAnswer, made_accepted, CallEnd, stored_call_of}
use Rattle.quoting_unit.specs.Interface.{Lent, answer_short, figures_short}
use Rattle.quoting_unit.specs.Unit.{CallLeaves, UnitCall, on_ledger, too_short, unit_call_ending, figures_by, leaves_by, unit_call}
use Rattle.quoting_unit.proofs.Theorems.UnitBuffers.{leaves_if}

module _ (stored : List ℕ) (table_size : ℕ) (book request : List ℕ) (lent : Lent) (acceptance : Acceptance) (size : ℕ) where
  abbrev call : UnitCall
  call = on_ledger stored table_size (accept book request)

  abbrev end : CallEnd
  end = stored_call_of stored table_size (accept book request) lent.output

  -- by what the call answers
  abbrev leaves : StoredCallAnswer → CallLeaves
  leaves answer = leaves_by (record { ending = unit_call_ending answer; output = end.output; figures = figures_by answer lent.figures }) lent

  pub accepted_leaves : answer_short lent ≡ false → figures_short lent ≡ false → made_accepted acceptance size ≡ end.answer →
      leaves (made_accepted acceptance size) ≡ unit_call call lent
  accepted_leaves answer figures told =
      let long : too_short call lent ≡ false = rw (answer, figures) in
      ap leaves told ∙ sym (ap (leaves_if call lent) long)
