-- How reading and writing a stored ledger end, by document 01's number and values.
use Rattle.std.specs.Prelude.{[], ◌∷◌, Bool, true, false, pos, Err, Ok}
use Rattle.tagged.specs.Ending.{Ending, ends_refused, ends_done}
use Rattle.stored.specs.Writing.{Written}

-- ---- "Writing answers the form's length": its value
abbrev pub written_ending : Written → Ending
written_ending (Ok size) = ends_done (pos size ∷ [])
written_ending (Err r) = ends_refused r

abbrev pub is_written : Written → Bool
is_written (Ok size) = true
is_written (Err r) = false
