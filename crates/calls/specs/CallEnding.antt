-- How each call ends, by document 01's number and values. Done, plain, opened, joined, small and ended all have number 0; the values tell them apart.
use Rattle.std.specs.Prelude.{ℕ, ◌≤◌, List, [], ◌∷◌, ◌++◌, ℤ, pos, None, Option, Some}
use Rattle.tagged.specs.Ending.{Ending, ends_refused, ends_done}
use Rattle.reconciliation.specs.Figures.{figure_values}
use Rattle.calls.specs.Decision.{CallAnswer, is_accepted, is_done, is_refused}
use Rattle.calls.specs.declared.answers.Acceptance.{Acceptance}
use Rattle.calls.specs.declared.answers.JoiningAnswer.{JoiningAnswer}
use Rattle.calls.specs.declared.answers.JoiningAnswer.TheVariants.{NotAsked, Ended, Small, Joined}

-- 0 none asked for, 1 joined, 2 small, 3 ended; then the joiner's entry and G, 0 where there is none
abbrev pub joining_values : JoiningAnswer → List ℤ
joining_values NotAsked = pos 0 ∷ pos 0 ∷ pos 0 ∷ []
joining_values (Joined collected) = pos 1 ∷ pos collected.entry ∷ pos collected.contribution ∷ []
joining_values Small = pos 2 ∷ pos 0 ∷ pos 0 ∷ []
joining_values Ended = pos 3 ∷ pos 0 ∷ pos 0 ∷ []

-- the scheme's number, from 1 on, or 0 where none opened
abbrev pub opening_value : Option ℕ → ℤ
opening_value None = pos 0
opening_value (Some scheme) = pos scheme

-- "plain" is 0 in all four
abbrev pub acceptance_values : Acceptance → List ℤ
acceptance_values acceptance =
    joining_values acceptance.joining ++ (opening_value acceptance.opening ∷ figure_values acceptance.reconciliation)

abbrev pub call_ending : CallAnswer → Ending
call_ending (is_accepted acceptance) = ends_done (acceptance_values acceptance)
call_ending is_done = ends_done []
call_ending (is_refused r) = ends_refused r

-- refusals and schemes are numbered from 1, so that 0 is neither
abbrev pub SchemeNumbered : Option ℕ → Type 0
SchemeNumbered None = Unit {0}
SchemeNumbered (Some scheme) = 1 ≤ scheme

abbrev pub Numbered : CallAnswer → Type 0
Numbered (is_accepted acceptance) = SchemeNumbered acceptance.opening
Numbered is_done = Unit {0}
Numbered (is_refused r) = 1 ≤ r.number
