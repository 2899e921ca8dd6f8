-- Document 01, 'Request': its fields, each with tag; lowest, highest and step of length; least and most times; the form, 0 for both.
-- Document 02, E6: "A request may carry 0D (2 bytes) in place of 04."
use Rattle.std.specs.Prelude.{ℕ, ◌*◌, List, [], ◌∷◌}
use Rattle.field_walk.specs.Walk.{first_form, second_form}
use Rattle.field_values.specs.Limits.{most_factors}

abbrev pub request_rows : List (List ℕ)
request_rows =
    (1 ∷ 4 ∷ 4 ∷ 1 ∷ 1 ∷ 1 ∷ 0 ∷ []) ∷
    (2 ∷ 4 ∷ 4 ∷ 1 ∷ 1 ∷ 1 ∷ 0 ∷ []) ∷
    (3 ∷ 1 ∷ 1 ∷ 1 ∷ 1 ∷ 1 ∷ 0 ∷ []) ∷
    (4 ∷ 1 ∷ 1 ∷ 1 ∷ 1 ∷ 1 ∷ first_form ∷ []) ∷
    (5 ∷ 24 ∷ 24 ∷ 1 ∷ 1 ∷ 1 ∷ 0 ∷ []) ∷
    (6 ∷ 45 ∷ 45 ∷ 1 ∷ 1 ∷ 1 ∷ 0 ∷ []) ∷
    (7 ∷ 20 ∷ 20 ∷ 1 ∷ 1 ∷ 1 ∷ 0 ∷ []) ∷
    (8 ∷ 8 ∷ 8 ∷ 1 ∷ 1 ∷ 1 ∷ 0 ∷ []) ∷
    (9 ∷ 2 ∷ 2 * most_factors ∷ 2 ∷ 1 ∷ 1 ∷ 0 ∷ []) ∷
    (10 ∷ 2 ∷ 2 * most_factors ∷ 2 ∷ 1 ∷ 1 ∷ 0 ∷ []) ∷
    (11 ∷ 2 ∷ 2 * most_factors ∷ 2 ∷ 1 ∷ 1 ∷ 0 ∷ []) ∷
    (12 ∷ 9 ∷ 9 ∷ 1 ∷ 1 ∷ 1 ∷ 0 ∷ []) ∷
    (13 ∷ 2 ∷ 2 ∷ 1 ∷ 1 ∷ 1 ∷ second_form ∷ []) ∷
    []
