-- A list of calls by its decisions, so that a history is computed by its bills.
use Rattle.std.specs.Prelude.{ℕ, List, [], ◌∷◌}
use Rattle.charge.specs.Price.{Pricing}
use Rattle.ledger.specs.Books.{Books}
use Rattle.calls.specs.Decision.{Call, Decision, accept_by, decided, CallAnswer, answer_to}
use Rattle.history.specs.History.{History, books_in, recorded}

abbrev pub priced_as : Pricing → Books → Decision
priced_as pricing books = accept_by books pricing

abbrev pub called_as : Call → Books → Decision
called_as call books = decided books call

unfoldable pub history_by : ℕ → History → List (Books → Decision) → History
history_by room history [] = history
history_by room history (rule ∷ rules) = history_by room (recorded history (rule (books_in room history))) rules

unfoldable pub answers_by : ℕ → History → List (Books → Decision) → List CallAnswer
answers_by room history [] = []
answers_by room history (rule ∷ rules) =
    answer_to (books_in room history) (rule (books_in room history)) ∷ answers_by room (recorded history (rule (books_in room history))) rules
