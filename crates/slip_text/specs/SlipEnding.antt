-- How the writing of a slip ends, by document 01's number and values.
use Rattle.std.specs.Prelude.{[], ◌∷◌, pos}
use Rattle.tagged.specs.Ending.{Ending, ending_by}
use Rattle.slip_text.specs.Slip.{SlipWritten}

-- the value is the text's length
abbrev pub slip_ending : SlipWritten → Ending
slip_ending written = ending_by (λ size. pos size ∷ []) written
