-- What the code answers of a walk.
use Rattle.std.specs.Prelude.{ℕ, Err, Ok, Result}
use Rattle.field_walk.specs.Walk.{Walk, fields, stops}

-- what the code answers of a walk: every field stands, or the offset of the first that can't
abbrev pub Walked : Type 0
Walked = Result (Unit {0}) ℕ

-- what the code answers of a walk
abbrev pub walked : Walk → Walked
walked (fields fs) = Ok tt
walked (stops at) = Err at
