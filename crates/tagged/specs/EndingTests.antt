-- What an ending tells: by its number whether a call is done, and by the whole of it the answer.
use Rattle.std.specs.Prelude.{◌≤◌, ◌==◌, Bool, Err, Ok, Result}
use Rattle.tagged.specs.Ending.{Ending}
use Rattle.tagged.specs.declared.file.Refusal.{Refusal}

abbrev pub number_is_0 : Ending → Bool
number_is_0 ending = ending.number == 0

-- a refusal has one of the numbers from 1 on: document 01, 'The numbers'
abbrev pub Numbered : {Value : Type 0} → Result Value Refusal → Type 0
Numbered (Ok value) = Unit {0}
Numbered (Err r) = 1 ≤ r.number
