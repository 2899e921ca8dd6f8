-- Reading, writing and the moves refuse with their numbers alone.
use Rattle.std.specs.Prelude.{ℕ, List, [], ◌∷◌, true, ◌≡◌, Err, Ok}
use Rattle.tagged.specs.File.{FileAnswer}
use Rattle.tagged.specs.Refusals.{file_does_not_walk, check_differs, value_not_listed, ledger_unsound, output_too_short, numbers_not_counts}
use Rattle.ledger.specs.RefusalNumbers.{one_of}
use Rattle.stored.specs.Writing.{Written}
use Rattle.stored.specs.StoredNumbers.{reading_numbers}

-- a file's answer that it stands, or one of these numbers
abbrev pub FileRefuses : List ℕ → FileAnswer → Type 0
FileRefuses numbers (Ok _) = Unit {0}
FileRefuses numbers (Err r) = one_of numbers r.number ≡ true

abbrev pub ReadRefuses : FileAnswer → Type 0
ReadRefuses answer = FileRefuses reading_numbers answer

-- an answer that tells a form's length, or one of these numbers
abbrev pub RefusesWith : List ℕ → Written → Type 0
RefusesWith numbers (Ok size) = Unit {0}
RefusesWith numbers (Err r) = one_of numbers r.number ≡ true

-- ---- the numbers that writing refuses with
abbrev pub writing_numbers : List ℕ
writing_numbers = ledger_unsound ∷ output_too_short ∷ []

abbrev pub WriteRefuses : Written → Type 0
WriteRefuses written = RefusesWith writing_numbers written

-- ---- and the moves: "1, 2, 1, 3, 13, 14", and back "1, 2, 1, 3, 13, 16, 14"
abbrev pub moving_numbers : List ℕ
moving_numbers = file_does_not_walk ∷ check_differs ∷ value_not_listed ∷ ledger_unsound ∷ output_too_short ∷ []

abbrev pub moving_back_numbers : List ℕ
moving_back_numbers = numbers_not_counts ∷ moving_numbers
