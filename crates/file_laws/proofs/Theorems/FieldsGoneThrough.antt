-- The end of going on from field to field.
use Rattle.std.specs.Prelude.{ℕ, ◌≤◌, ◌≡◌, refl, length}
use Rattle.std.proofs.Common.{arith}
use mathlib.Core.List.{List, []}
use Rattle.field_walk.specs.Walk.{FieldAt}
use Rattle.tagged.specs.WalkRelations.{Fields, none, first}

pub walk_end : {s : List ℕ} {at : ℕ} {fs : List FieldAt} → Fields s at fs → length s ≤ at → fs ≡ []
walk_end (none l) h = refl
walk_end (first x r) h = absurd (omega (arith, x.start, x.within))
