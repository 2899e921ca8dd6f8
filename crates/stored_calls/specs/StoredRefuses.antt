-- A call on stored bytes refuses with its numbers alone.
use Rattle.std.specs.Prelude.{ℕ, ◌≡◌, List, true}
use Rattle.ledger.specs.RefusalNumbers.{one_of}
use Rattle.stored_calls.specs.StoredCalls.{StoredCallAnswer, not_read, not_made, made_accepted, made_done}

abbrev pub StoredRefuses : List ℕ → StoredCallAnswer → Type 0
StoredRefuses numbers (not_read r) = one_of numbers r.number ≡ true
StoredRefuses numbers (not_made r) = one_of numbers r.number ≡ true
StoredRefuses numbers (made_accepted acceptance size) = Unit {0}
StoredRefuses numbers (made_done size) = Unit {0}
