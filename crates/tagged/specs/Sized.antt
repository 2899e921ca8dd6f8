-- What a search finds for a row.
use Rattle.std.specs.Prelude.{ℕ, ◌+◌, ◌-◌, ◌%◌, ◌≤◌, ◌≡◌, List, length}
use Rattle.field_walk.specs.Walk.{tag_of, lowest_of, highest_of, step_of}
use Rattle.tagged.specs.Find.{field_value, field_start}

-- The value that the search finds for such a row has a length that the row permits, and lies inside the file.
pub record Sized (row s : List ℕ) : Type 0 where
  pub lowest : lowest_of row ≤ length (field_value (tag_of row) s)
  pub highest : length (field_value (tag_of row) s) ≤ highest_of row
  pub step : (length (field_value (tag_of row) s) - lowest_of row) % step_of row ≡ 0
  pub within : field_start (tag_of row) s + length (field_value (tag_of row) s) ≤ length s
