-- Document 01, 'Which places take which form': "When an answer is an enum, a definition gives this paper's number and values for each of its cases." How a
-- call ends, in these terms.
use Rattle.std.specs.Prelude.{ℕ, List, [], ℤ, Err, Ok, Result}
use Rattle.tagged.specs.declared.file.Refusal.{Refusal}

pub record Ending : Type 0 where
  -- 0 where the call is done, otherwise the refusal's
  pub number : ℕ
  pub file : ℕ
  pub place : ℕ
  -- what the case carries
  pub values : List ℤ

abbrev pub ending_of : ℕ → ℕ → ℕ → List ℤ → Ending
ending_of number file place values = record { number = number; file = file; place = place; values = values }

-- "A refusal returns number, file .. and place", and no values
abbrev pub ends_refused : Refusal → Ending
ends_refused r = ending_of r.number r.file r.place []

abbrev pub ends_done : List ℤ → Ending
ends_done values = ending_of 0 0 0 values

-- of an answer that is done with a value, which has these values, or is refused
abbrev pub ending_by : {Value : Type 0} → (Value → List ℤ) → Result Value Refusal → Ending
ending_by values (Ok value) = ends_done (values value)
ending_by values (Err r) = ends_refused r
