-- What the code's reader of limits asks of them.
use Rattle.std.specs.Prelude.{ℕ, List, [], ◌∷◌, Bool, true, false, if◌then◌else◌, ◌==◌}
use Rattle.field_values.specs.Judged.{width_of}

-- numbers are 1, 2 or 4 bytes wide
unfoldable pub narrow : List (List ℕ) → Bool
narrow [] = true
narrow (limit ∷ limits) =
    if width_of limit == 1 then narrow limits
    else if width_of limit == 2 then narrow limits
    else if width_of limit == 4 then narrow limits else false
