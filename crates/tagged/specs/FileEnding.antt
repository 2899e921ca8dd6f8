-- How the reading of a file ends.
use Rattle.std.specs.Prelude.{[]}
use Rattle.tagged.specs.File.{FileAnswer}
use Rattle.tagged.specs.Ending.{Ending, ending_by}

-- of a file that is read: what was read stands beside this answer
abbrev pub file_ending : FileAnswer → Ending
file_ending answer = ending_by (λ _. []) answer
