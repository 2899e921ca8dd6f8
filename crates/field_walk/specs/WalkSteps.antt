-- What callers of a walk's steps need: a row that is due is one of the table's, and a field ends within the rest.
use Rattle.std.specs.Prelude.{ℕ, ◌+◌, ◌<◌, ◌≤◌, Some, None}
use Rattle.field_walk.specs.declared.walk.Front.{Front}
use Rattle.field_walk.specs.declared.walk.Front.TheVariants.{End, Field, CannotStand}
use Rattle.field_walk.specs.Walk.{Due}

-- What callers of the steps need besides: a row that is due is one of the table's, and a field ends within the rest.
abbrev pub RowBelow : ℕ → Due → Type 0
RowBelow size None = Unit {0}
RowBelow size (Some (k, n)) = k < size

abbrev pub EndsWithin : ℕ → Front → Type 0
EndsWithin size End = Unit {0}
EndsWithin size (Field k n len) = len + 3 ≤ size
EndsWithin size CannotStand = Unit {0}
