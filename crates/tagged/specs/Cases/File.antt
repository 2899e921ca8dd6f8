-- Small files: each way in which the last five bytes, the check or a field can't stand, with number and place.
use Rattle.std.specs.Prelude.{ℕ, ◌≡◌, refl, List, [], ◌∷◌, map, Err, Ok}
use Rattle.numbers.specs.BigEndian.{number}
use Rattle.numbers.specs.Check.{check_from}
use Rattle.field_walk.specs.Walk.{due_from, all_had, front_of, walk_from}
use Rattle.field_walk.specs.Cases.Walk.{small_rows}
use Rattle.tagged.specs.File.{refusal, file_answer, FileAnswer}

abbrev refused : ℕ → ℕ → FileAnswer
refused number place = Err (refusal number 1 place)

-- small files, and how each stands; how fields walk has its own table beside the walk
abbrev small_files : List (List ℕ × FileAnswer)
small_files =
    -- no byte, and one to four
    ([], refused 1 0) ∷
    (255 ∷ [], refused 1 0) ∷
    (255 ∷ 0 ∷ [], refused 1 0) ∷
    (255 ∷ 0 ∷ 2 ∷ [], refused 1 0) ∷
    (255 ∷ 0 ∷ 2 ∷ 0 ∷ [], refused 1 0) ∷
    -- five bytes FF
    (255 ∷ 255 ∷ 255 ∷ 255 ∷ 255 ∷ [], refused 1 0) ∷
    -- right files: a field 2 of either length, and the field twice
    (1 ∷ 0 ∷ 1 ∷ 7 ∷ 2 ∷ 0 ∷ 3 ∷ 1 ∷ 2 ∷ 3 ∷ 255 ∷ 0 ∷ 2 ∷ 96 ∷ 27 ∷ [], Ok tt) ∷
    (1 ∷ 0 ∷ 1 ∷ 7 ∷ 2 ∷ 0 ∷ 7 ∷ 1 ∷ 2 ∷ 3 ∷ 4 ∷ 5 ∷ 6 ∷ 7 ∷ 255 ∷ 0 ∷ 2 ∷ 214 ∷ 210 ∷ [], Ok tt) ∷
    (1 ∷ 0 ∷ 1 ∷ 7 ∷ 2 ∷ 0 ∷ 3 ∷ 1 ∷ 2 ∷ 3 ∷ 2 ∷ 0 ∷ 7 ∷ 1 ∷ 2 ∷ 3 ∷ 4 ∷ 5 ∷ 6 ∷ 7 ∷ 255 ∷ 0 ∷ 2 ∷ 94 ∷ 152 ∷ [], Ok tt) ∷
    -- the last field has another tag, or another length, whatever the check
    (1 ∷ 0 ∷ 1 ∷ 7 ∷ 2 ∷ 0 ∷ 3 ∷ 1 ∷ 2 ∷ 3 ∷ 254 ∷ 0 ∷ 2 ∷ 96 ∷ 27 ∷ [], refused 1 0) ∷
    (1 ∷ 0 ∷ 1 ∷ 7 ∷ 2 ∷ 0 ∷ 3 ∷ 1 ∷ 2 ∷ 3 ∷ 255 ∷ 1 ∷ 2 ∷ 96 ∷ 27 ∷ [], refused 1 0) ∷
    (1 ∷ 0 ∷ 1 ∷ 7 ∷ 2 ∷ 0 ∷ 3 ∷ 1 ∷ 2 ∷ 3 ∷ 255 ∷ 0 ∷ 3 ∷ 96 ∷ 27 ∷ [], refused 1 0) ∷
    -- a wrong check: size − 2, and before any field
    (1 ∷ 0 ∷ 1 ∷ 7 ∷ 2 ∷ 0 ∷ 3 ∷ 1 ∷ 2 ∷ 3 ∷ 255 ∷ 0 ∷ 2 ∷ 96 ∷ 28 ∷ [], refused 2 13) ∷
    (1 ∷ 0 ∷ 1 ∷ 7 ∷ 1 ∷ 0 ∷ 1 ∷ 7 ∷ 255 ∷ 0 ∷ 2 ∷ 66 ∷ 103 ∷ [], refused 2 11) ∷
    -- the check of all bytes but the last five
    (1 ∷ 0 ∷ 1 ∷ 7 ∷ 2 ∷ 0 ∷ 3 ∷ 1 ∷ 2 ∷ 3 ∷ 255 ∷ 0 ∷ 2 ∷ 139 ∷ 81 ∷ [], refused 2 13) ∷
    -- FF where a field is due: size − 5
    (1 ∷ 0 ∷ 1 ∷ 7 ∷ 255 ∷ 0 ∷ 2 ∷ 205 ∷ 103 ∷ [], refused 1 4) ∷
    (255 ∷ 0 ∷ 2 ∷ 17 ∷ 34 ∷ [], refused 1 0) ∷
    -- FF before size − 5
    (1 ∷ 0 ∷ 1 ∷ 7 ∷ 255 ∷ 0 ∷ 2 ∷ 1 ∷ 2 ∷ 2 ∷ 0 ∷ 3 ∷ 1 ∷ 2 ∷ 3 ∷ 255 ∷ 0 ∷ 2 ∷ 155 ∷ 130 ∷ [], refused 1 4) ∷
    -- an end past size − 5, and fewer than three bytes before it
    (1 ∷ 0 ∷ 1 ∷ 7 ∷ 2 ∷ 0 ∷ 3 ∷ 1 ∷ 2 ∷ 255 ∷ 0 ∷ 2 ∷ 112 ∷ 195 ∷ [], refused 1 4) ∷
    (1 ∷ 0 ∷ 1 ∷ 7 ∷ 2 ∷ 0 ∷ 255 ∷ 0 ∷ 2 ∷ 76 ∷ 31 ∷ [], refused 1 4) ∷
    []

pub small_files_stand : map (λ t. file_answer small_rows 1 t.0) small_files ≡ map (λ t. t.1) small_files
unfolding number check_from due_from all_had front_of walk_from
small_files_stand = refl
