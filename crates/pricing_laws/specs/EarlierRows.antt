-- Document 01, 'Rate book' and 'Request': the fields of a file as it gives them, in one form alone.
use Rattle.std.specs.Prelude.{ℕ, ◌*◌, List, [], ◌∷◌}
use Rattle.field_values.specs.Limits.{most_zones, most_factors}

abbrev pub earlier_book_rows : List (List ℕ)
earlier_book_rows =
    (1 ∷ 4 ∷ 4 ∷ 1 ∷ 1 ∷ 1 ∷ []) ∷
    (2 ∷ 2 ∷ 2 ∷ 1 ∷ 1 ∷ 1 ∷ []) ∷
    (3 ∷ 40 ∷ 40 ∷ 1 ∷ 1 ∷ 1 ∷ []) ∷
    (4 ∷ 2 ∷ 2 * most_factors ∷ 2 ∷ 1 ∷ 1 ∷ []) ∷
    (5 ∷ 2 ∷ 2 * most_factors ∷ 2 ∷ 1 ∷ 1 ∷ []) ∷
    (6 ∷ 14 ∷ 14 ∷ 1 ∷ 1 ∷ 1 ∷ []) ∷
    (7 ∷ 3 ∷ 3 ∷ 1 ∷ 1 ∷ 1 ∷ []) ∷
    (8 ∷ 21 ∷ 21 ∷ 1 ∷ 1 ∷ most_zones ∷ []) ∷
    []

abbrev pub earlier_request_rows : List (List ℕ)
earlier_request_rows =
    (1 ∷ 4 ∷ 4 ∷ 1 ∷ 1 ∷ 1 ∷ []) ∷
    (2 ∷ 4 ∷ 4 ∷ 1 ∷ 1 ∷ 1 ∷ []) ∷
    (3 ∷ 1 ∷ 1 ∷ 1 ∷ 1 ∷ 1 ∷ []) ∷
    (4 ∷ 1 ∷ 1 ∷ 1 ∷ 1 ∷ 1 ∷ []) ∷
    (5 ∷ 24 ∷ 24 ∷ 1 ∷ 1 ∷ 1 ∷ []) ∷
    (6 ∷ 45 ∷ 45 ∷ 1 ∷ 1 ∷ 1 ∷ []) ∷
    (7 ∷ 20 ∷ 20 ∷ 1 ∷ 1 ∷ 1 ∷ []) ∷
    (8 ∷ 8 ∷ 8 ∷ 1 ∷ 1 ∷ 1 ∷ []) ∷
    (9 ∷ 2 ∷ 2 * most_factors ∷ 2 ∷ 1 ∷ 1 ∷ []) ∷
    (10 ∷ 2 ∷ 2 * most_factors ∷ 2 ∷ 1 ∷ 1 ∷ []) ∷
    (11 ∷ 2 ∷ 2 * most_factors ∷ 2 ∷ 1 ∷ 1 ∷ []) ∷
    (12 ∷ 9 ∷ 9 ∷ 1 ∷ 1 ∷ 1 ∷ []) ∷
    []
