-- That the fields of a file walk.
use Rattle.std.specs.Prelude.{ℕ, ◌≡◌, List}
use Rattle.field_walk.specs.Walk.{FieldAt, fields, walk}

-- the fields walk
abbrev pub FieldsWalk : List (List ℕ) → List ℕ → Type 0
FieldsWalk rows s = (fs : List FieldAt) × (walk rows s ≡ fields fs)
