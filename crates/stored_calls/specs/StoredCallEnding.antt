-- How the calls on stored bytes end, by document 01's number and values; what a call carries stands after the new form's length. Both the stored ledger and
-- the rate book are file 1, so a flag beside the ending says whose refusal it is.
use Rattle.std.specs.Prelude.{[], ◌∷◌, Bool, true, false, pos, Err, Ok}
use Rattle.tagged.specs.Ending.{Ending, ends_refused, ends_done}
use Rattle.calls.specs.Decision.{CallAnswer, is_accepted, is_done, is_refused}
use Rattle.calls.specs.CallEnding.{acceptance_values}
use Rattle.stored_calls.specs.StoredCalls.{StoredCheck, StoredCallAnswer, not_read, not_made, made_accepted, made_done}

abbrev pub stored_call_ending : StoredCallAnswer → Ending
stored_call_ending (not_read r) = ends_refused r
stored_call_ending (not_made r) = ends_refused r
stored_call_ending (made_accepted acceptance size) = ends_done (pos size ∷ acceptance_values acceptance)
stored_call_ending (made_done size) = ends_done (pos size ∷ [])

-- the refusal is of the stored ledger itself
abbrev pub of_stored_ledger : StoredCallAnswer → Bool
of_stored_ledger (not_read r) = true
of_stored_ledger (not_made r) = false
of_stored_ledger (made_accepted acceptance size) = false
of_stored_ledger (made_done size) = false

-- the last accepted month, connections, charged, borne, schemes and entries
abbrev pub stored_check_ending : StoredCheck → Ending
stored_check_ending (Err r) = ends_refused r
stored_check_ending (Ok counts) =
    ends_done
    (pos counts.month ∷
    pos counts.connections ∷
    pos counts.charged ∷
    pos counts.borne ∷
    pos counts.schemes ∷
    pos counts.entries ∷
    [])

-- ---- what the call itself answered: its refusals and schemes are numbered from 1
abbrev pub call_answer_in : StoredCallAnswer → CallAnswer
call_answer_in (not_read r) = is_refused r
call_answer_in (not_made r) = is_refused r
call_answer_in (made_accepted acceptance size) = is_accepted acceptance
call_answer_in (made_done size) = is_done

abbrev pub is_sound : StoredCheck → Bool
is_sound (Err r) = false
is_sound (Ok counts) = true
