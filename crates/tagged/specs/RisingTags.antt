-- "in rising tag order": a computed test that each row's tag is above the one before.
use Rattle.std.specs.Prelude.{ℕ, List, [], ◌∷◌, Bool, true, false, if◌then◌else◌, nat_lt}
use Rattle.field_walk.specs.Walk.{tag_of}

abbrev pub tags_above : ℕ → List (List ℕ) → Bool
tags_above tag [] = true
tags_above tag (row ∷ rows) = if nat_lt tag (tag_of row) then tags_above (tag_of row) rows else false

abbrev pub rising_tags : List (List ℕ) → Bool
rising_tags [] = true
rising_tags (row ∷ rows) = tags_above (tag_of row) rows
