-- Document 01, 'Rate book': its fields, each with tag; lowest, highest and step of length; least and most times; the form, 0 for both.
-- Document 02, E6: "A book may carry field 09 (22 bytes, two-byte zone number, else as 08) in place of every 08. .. There are still at most eight zones."
use Rattle.std.specs.Prelude.{ℕ, ◌*◌, List, [], ◌∷◌}
use Rattle.field_walk.specs.Walk.{first_form, second_form}
use Rattle.field_values.specs.Limits.{most_zones, most_factors}

abbrev pub book_rows : List (List ℕ)
book_rows =
    (1 ∷ 4 ∷ 4 ∷ 1 ∷ 1 ∷ 1 ∷ 0 ∷ []) ∷
    (2 ∷ 2 ∷ 2 ∷ 1 ∷ 1 ∷ 1 ∷ 0 ∷ []) ∷
    (3 ∷ 40 ∷ 40 ∷ 1 ∷ 1 ∷ 1 ∷ 0 ∷ []) ∷
    (4 ∷ 2 ∷ 2 * most_factors ∷ 2 ∷ 1 ∷ 1 ∷ 0 ∷ []) ∷
    (5 ∷ 2 ∷ 2 * most_factors ∷ 2 ∷ 1 ∷ 1 ∷ 0 ∷ []) ∷
    (6 ∷ 14 ∷ 14 ∷ 1 ∷ 1 ∷ 1 ∷ 0 ∷ []) ∷
    (7 ∷ 3 ∷ 3 ∷ 1 ∷ 1 ∷ 1 ∷ 0 ∷ []) ∷
    (8 ∷ 21 ∷ 21 ∷ 1 ∷ 1 ∷ most_zones ∷ first_form ∷ []) ∷
    (9 ∷ 22 ∷ 22 ∷ 1 ∷ 1 ∷ most_zones ∷ second_form ∷ []) ∷
    []
