-- Two files that differ in one field's value and in the check alone.
use Rattle.std.specs.Prelude.{ℕ, ◌+◌, ◌-◌, ◌<◌, ◌≤◌, ◌≡◌, List, ◌⊎◌, length, slice_index}
use Rattle.tagged.specs.File.{fields_part}
use Rattle.tagged.specs.Find.{field_start, field_value}

-- every byte before the last two, and before or after the value of the first file's field with this tag, is the same
pub record DiffersInField (tag : ℕ) (file other : List ℕ) : Type 0 where
  pub size : length other ≡ length file
  pub elsewhere : (k : ℕ) → k < length file - 2 →
      (k < field_start tag (fields_part file)) ⊎ (field_start tag (fields_part file) + length (field_value tag (fields_part file)) ≤ k) →
      slice_index other k ≡ slice_index file k
