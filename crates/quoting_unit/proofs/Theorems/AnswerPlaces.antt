-- The answer's places before the last are the values with which accept ends: the joining's kind, entry and G, and the scheme opened.
use Rattle.std.specs.Prelude.{ℕ, ◌≡◌, refl, [], ◌∷◌, ◌++◌, map, pos, take, None, Option, Some}
use Rattle.calls.specs.CallEnding.{joining_values, opening_value}
use Rattle.calls.specs.declared.answers.JoiningAnswer.{JoiningAnswer}
use Rattle.calls.specs.declared.answers.JoiningAnswer.TheVariants.{NotAsked, Ended, Small, Joined}
use Rattle.quoting_unit.specs.Unit.{acceptance_places}

pub places_are_values : (joining : JoiningAnswer) (opening : Option ℕ) (size : ℕ) →
    map pos (take 4 (acceptance_places joining opening size)) ≡ joining_values joining ++ (opening_value opening ∷ [])
places_are_values NotAsked None size = refl
places_are_values NotAsked (Some number) size = refl
places_are_values Ended None size = refl
places_are_values Ended (Some number) size = refl
places_are_values Small None size = refl
places_are_values Small (Some number) size = refl
places_are_values (Joined collected) None size = refl
places_are_values (Joined collected) (Some number) size = refl
