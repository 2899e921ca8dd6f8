-- Small files, walked: every way in which a field can't stand, with its offset.
use Rattle.std.specs.Prelude.{ℕ, ◌≡◌, refl, List, [], ◌∷◌, map}
use Rattle.numbers.specs.BigEndian.{number}
use Rattle.field_walk.specs.Walk.{due_from, all_had, front_of, FieldAt, Walk, fields, stops, walk_from, walk}

-- For a table of small files: a field 1 of one byte, once or twice a field 2 of three or seven bytes, and at most one field 3 of one byte.
abbrev pub small_rows : List (List ℕ)
small_rows = (1 ∷ 1 ∷ 1 ∷ 1 ∷ 1 ∷ 1 ∷ []) ∷ (2 ∷ 3 ∷ 7 ∷ 4 ∷ 1 ∷ 2 ∷ []) ∷ (3 ∷ 1 ∷ 1 ∷ 1 ∷ 0 ∷ 1 ∷ []) ∷ []

abbrev field : ℕ → ℕ → ℕ → FieldAt
field tag start len = record { tag = tag; start = start; len = len }

-- files without their last five bytes, and how each walks
abbrev small_walks : List (List ℕ × Walk)
small_walks =
    -- every field stands: a field 2 of either length, the field twice, and a field 3
    (1 ∷ 0 ∷ 1 ∷ 7 ∷ 2 ∷ 0 ∷ 3 ∷ 1 ∷ 2 ∷ 3 ∷ [], fields (field 1 3 1 ∷ field 2 7 3 ∷ [])) ∷
    (1 ∷ 0 ∷ 1 ∷ 7 ∷ 2 ∷ 0 ∷ 7 ∷ 1 ∷ 2 ∷ 3 ∷ 4 ∷ 5 ∷ 6 ∷ 7 ∷ [], fields (field 1 3 1 ∷ field 2 7 7 ∷ [])) ∷
    (1 ∷ 0 ∷ 1 ∷ 7 ∷ 2 ∷ 0 ∷ 3 ∷ 1 ∷ 2 ∷ 3 ∷ 2 ∷ 0 ∷ 7 ∷ 1 ∷ 2 ∷ 3 ∷ 4 ∷ 5 ∷ 6 ∷ 7 ∷ [], fields (field 1 3 1 ∷ field 2 7 3 ∷ field 2 13 7 ∷ [])) ∷
    (1 ∷ 0 ∷ 1 ∷ 7 ∷ 2 ∷ 0 ∷ 3 ∷ 1 ∷ 2 ∷ 3 ∷ 3 ∷ 0 ∷ 1 ∷ 9 ∷ [], fields (field 1 3 1 ∷ field 2 7 3 ∷ field 3 13 1 ∷ [])) ∷
    -- the end where a field is due: FF stands there, so it is size − 5
    ([], stops 0) ∷
    (1 ∷ 0 ∷ 1 ∷ 7 ∷ [], stops 4) ∷
    -- a field once too often
    (1 ∷ 0 ∷ 1 ∷ 7 ∷ 1 ∷ 0 ∷ 1 ∷ 7 ∷ 2 ∷ 0 ∷ 3 ∷ 1 ∷ 2 ∷ 3 ∷ [], stops 4) ∷
    (1 ∷ 0 ∷ 1 ∷ 7 ∷ 2 ∷ 0 ∷ 3 ∷ 1 ∷ 2 ∷ 3 ∷ 2 ∷ 0 ∷ 3 ∷ 1 ∷ 2 ∷ 3 ∷ 2 ∷ 0 ∷ 3 ∷ 1 ∷ 2 ∷ 3 ∷ [], stops 16) ∷
    (1 ∷ 0 ∷ 1 ∷ 7 ∷ 2 ∷ 0 ∷ 3 ∷ 1 ∷ 2 ∷ 3 ∷ 3 ∷ 0 ∷ 1 ∷ 9 ∷ 3 ∷ 0 ∷ 1 ∷ 9 ∷ [], stops 14) ∷
    -- a field in the place of another that is due, after a later one, of no row, and FF
    (2 ∷ 0 ∷ 3 ∷ 1 ∷ 2 ∷ 3 ∷ 1 ∷ 0 ∷ 1 ∷ 7 ∷ [], stops 0) ∷
    (1 ∷ 0 ∷ 1 ∷ 7 ∷ 3 ∷ 0 ∷ 1 ∷ 9 ∷ [], stops 4) ∷
    (1 ∷ 0 ∷ 1 ∷ 7 ∷ 2 ∷ 0 ∷ 3 ∷ 1 ∷ 2 ∷ 3 ∷ 3 ∷ 0 ∷ 1 ∷ 9 ∷ 2 ∷ 0 ∷ 3 ∷ 1 ∷ 2 ∷ 3 ∷ [], stops 14) ∷
    (1 ∷ 0 ∷ 1 ∷ 7 ∷ 2 ∷ 0 ∷ 3 ∷ 1 ∷ 2 ∷ 3 ∷ 4 ∷ 0 ∷ 1 ∷ 9 ∷ [], stops 10) ∷
    (1 ∷ 0 ∷ 1 ∷ 7 ∷ 2 ∷ 0 ∷ 3 ∷ 1 ∷ 2 ∷ 3 ∷ 255 ∷ 0 ∷ 2 ∷ 1 ∷ 2 ∷ [], stops 10) ∷
    -- a length not permitted: below the lowest, between two steps, one and four above the highest, and by its first byte alone
    (1 ∷ 0 ∷ 1 ∷ 7 ∷ 2 ∷ 0 ∷ 0 ∷ [], stops 4) ∷
    (1 ∷ 0 ∷ 1 ∷ 7 ∷ 2 ∷ 0 ∷ 2 ∷ 1 ∷ 2 ∷ [], stops 4) ∷
    (1 ∷ 0 ∷ 1 ∷ 7 ∷ 2 ∷ 0 ∷ 5 ∷ 1 ∷ 2 ∷ 3 ∷ 4 ∷ 5 ∷ [], stops 4) ∷
    (1 ∷ 0 ∷ 2 ∷ 7 ∷ 7 ∷ 2 ∷ 0 ∷ 3 ∷ 1 ∷ 2 ∷ 3 ∷ [], stops 0) ∷
    (1 ∷ 0 ∷ 1 ∷ 7 ∷ 2 ∷ 0 ∷ 11 ∷ 1 ∷ 2 ∷ 3 ∷ 4 ∷ 5 ∷ 6 ∷ 7 ∷ 8 ∷ 9 ∷ 10 ∷ 11 ∷ [], stops 4) ∷
    (1 ∷ 1 ∷ 1 ∷ 7 ∷ 2 ∷ 0 ∷ 3 ∷ 1 ∷ 2 ∷ 3 ∷ [], stops 0) ∷
    -- an end past the last byte, and fewer than three bytes
    (1 ∷ 0 ∷ 1 ∷ 7 ∷ 2 ∷ 0 ∷ 3 ∷ 1 ∷ 2 ∷ [], stops 4) ∷
    (1 ∷ 0 ∷ 1 ∷ 7 ∷ 2 ∷ 0 ∷ [], stops 4) ∷
    (1 ∷ 0 ∷ 1 ∷ 7 ∷ 2 ∷ 0 ∷ 3 ∷ 1 ∷ 2 ∷ 3 ∷ 3 ∷ [], stops 10) ∷
    []

pub small_walks_hold : map (λ t. walk small_rows t.0) small_walks ≡ map (λ t. t.1) small_walks
unfolding number due_from all_had front_of walk_from
small_walks_hold = refl

-- Document 02, E6: a kind of two forms. Both have a field 1 and a field 3, of one byte; the first form once or twice a field 2 of one byte, the second a
-- field 4 of two.
abbrev form_rows : List (List ℕ)
form_rows =
    (1 ∷ 1 ∷ 1 ∷ 1 ∷ 1 ∷ 1 ∷ 0 ∷ []) ∷ (2 ∷ 1 ∷ 1 ∷ 1 ∷ 1 ∷ 2 ∷ 1 ∷ []) ∷ (3 ∷ 1 ∷ 1 ∷ 1 ∷ 1 ∷ 1 ∷ 0 ∷ []) ∷ (4 ∷ 2 ∷ 2 ∷ 1 ∷ 1 ∷ 1 ∷ 2 ∷ []) ∷ []

abbrev form_walks : List (List ℕ × Walk)
form_walks =
    -- the first form, the field 2 once and twice, and the second
    (1 ∷ 0 ∷ 1 ∷ 7 ∷ 2 ∷ 0 ∷ 1 ∷ 7 ∷ 3 ∷ 0 ∷ 1 ∷ 7 ∷ [], fields (field 1 3 1 ∷ field 2 7 1 ∷ field 3 11 1 ∷ [])) ∷
    (1 ∷ 0 ∷ 1 ∷ 7 ∷ 2 ∷ 0 ∷ 1 ∷ 7 ∷ 2 ∷ 0 ∷ 1 ∷ 7 ∷ 3 ∷ 0 ∷ 1 ∷ 7 ∷ [], fields (field 1 3 1 ∷ field 2 7 1 ∷ field 2 11 1 ∷ field 3 15 1 ∷ [])) ∷
    (1 ∷ 0 ∷ 1 ∷ 7 ∷ 3 ∷ 0 ∷ 1 ∷ 7 ∷ 4 ∷ 0 ∷ 2 ∷ 7 ∷ 7 ∷ [], fields (field 1 3 1 ∷ field 3 7 1 ∷ field 4 11 2 ∷ [])) ∷
    -- both: at the second form that comes
    (1 ∷ 0 ∷ 1 ∷ 7 ∷ 2 ∷ 0 ∷ 1 ∷ 7 ∷ 3 ∷ 0 ∷ 1 ∷ 7 ∷ 4 ∷ 0 ∷ 2 ∷ 7 ∷ 7 ∷ [], stops 12) ∷
    (1 ∷ 0 ∷ 1 ∷ 7 ∷ 2 ∷ 0 ∷ 1 ∷ 7 ∷ 3 ∷ 0 ∷ 1 ∷ 7 ∷ 4 ∷ 0 ∷ 2 ∷ 7 ∷ 7 ∷ 4 ∷ 0 ∷ 2 ∷ 7 ∷ 7 ∷ [], stops 12) ∷
    (1 ∷ 0 ∷ 1 ∷ 7 ∷ 3 ∷ 0 ∷ 1 ∷ 7 ∷ 4 ∷ 0 ∷ 2 ∷ 7 ∷ 7 ∷ 2 ∷ 0 ∷ 1 ∷ 7 ∷ [], stops 13) ∷
    -- neither, where the rest walks: where the first form was due
    (1 ∷ 0 ∷ 1 ∷ 7 ∷ 3 ∷ 0 ∷ 1 ∷ 7 ∷ [], stops 4) ∷
    -- neither, and another field that can't stand: a field 5, the field 2 too late, the field 4 too early, too short and twice, no field 3
    (1 ∷ 0 ∷ 1 ∷ 7 ∷ 3 ∷ 0 ∷ 1 ∷ 7 ∷ 5 ∷ 0 ∷ 1 ∷ 7 ∷ [], stops 8) ∷
    (1 ∷ 0 ∷ 1 ∷ 7 ∷ 3 ∷ 0 ∷ 1 ∷ 7 ∷ 2 ∷ 0 ∷ 1 ∷ 7 ∷ [], stops 8) ∷
    (1 ∷ 0 ∷ 1 ∷ 7 ∷ 4 ∷ 0 ∷ 2 ∷ 7 ∷ 7 ∷ 3 ∷ 0 ∷ 1 ∷ 7 ∷ [], stops 4) ∷
    (1 ∷ 0 ∷ 1 ∷ 7 ∷ 3 ∷ 0 ∷ 1 ∷ 7 ∷ 4 ∷ 0 ∷ 1 ∷ 7 ∷ [], stops 8) ∷
    (1 ∷ 0 ∷ 1 ∷ 7 ∷ 3 ∷ 0 ∷ 1 ∷ 7 ∷ 4 ∷ 0 ∷ 2 ∷ 7 ∷ 7 ∷ 4 ∷ 0 ∷ 2 ∷ 7 ∷ 7 ∷ [], stops 13) ∷
    (1 ∷ 0 ∷ 1 ∷ 7 ∷ [], stops 4) ∷
    (1 ∷ 0 ∷ 1 ∷ 7 ∷ 2 ∷ 0 ∷ 1 ∷ 7 ∷ [], stops 8) ∷
    []

pub two_forms_hold : map (λ t. walk form_rows t.0) form_walks ≡ map (λ t. t.1) form_walks
unfolding number due_from all_had front_of walk_from
two_forms_hold = refl
