-- What a file that stands is, and the refusals of one.
use Rattle.std.specs.Prelude.{ℕ, ◌≤◌, List, true, ◌≡◌, length}
use Rattle.field_walk.specs.Walk.{Walk, walk, fields, FieldAt}
use Rattle.tagged.specs.declared.file.Refusal.{Refusal}
use Rattle.tagged.specs.File.{tail_stands, check_stands, fields_part}

-- by how its fields walk, whatever its kind
pub record StandsBy (walked : Walk) (s : List ℕ) : Type 0 where
  pub size : 5 ≤ length s
  pub tail : tail_stands s ≡ true
  pub right_check : check_stands s ≡ true
  pub field_list : List FieldAt
  pub walks : walked ≡ fields field_list

-- of a kind by rows
abbrev pub FileStands : List (List ℕ) → List ℕ → Type 0
FileStands rows s = StandsBy (walk rows (fields_part s)) s

-- a refusal of this file, with a number from 1 to `most`
abbrev pub RefusalTo : ℕ → ℕ → Refusal → Type 0
RefusalTo most file r = (1 ≤ r.number) × (r.number ≤ most) × (r.file ≡ file)
