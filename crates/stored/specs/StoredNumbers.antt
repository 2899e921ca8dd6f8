-- The numbers that reading and writing refuse with.
use Rattle.std.specs.Prelude.{ℕ, List, [], ◌∷◌}
use Rattle.tagged.specs.Refusals.{value_not_listed, no_entry_left, ledger_unsound, file_does_not_walk, check_differs}

-- ---- the numbers that reading refuses with
abbrev pub reading_numbers : List ℕ
reading_numbers = file_does_not_walk ∷ check_differs ∷ value_not_listed ∷ no_entry_left ∷ ledger_unsound ∷ []
