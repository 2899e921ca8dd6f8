-- The results that a call can come to: 0 where it is done, and the numbers of its refusals.
use Rattle.std.specs.Prelude.{ℕ, ◌≤◌, ◌≡◌, true, List, [], ◌∷◌, ◌++◌, ◌≢◌, Ok}
use Rattle.tagged.specs.Refusals.{file_does_not_walk, check_differs, value_not_listed, zone_not_in_book, bespoke_not_allowed, output_too_short}
use Rattle.charge.specs.Price.{price_of}
use Rattle.charge.specs.declared.Bill.{Bill}
use Rattle.ledger.specs.RefusalNumbers.{one_of}
use Rattle.slip_text.specs.Slip.{slip_written}
use Rattle.stored.specs.Moves as moves
use Rattle.stored.specs.RefusedWith.{moving_numbers, moving_back_numbers}
use Rattle.stored.specs.StoredNumbers.{reading_numbers}
use Rattle.stored_calls.specs.StoredCalls.{new_stored_of, stored_call_of, check_stored_of}
use Rattle.stored_calls.specs.StoredRefusals.{is_made, stored_numbers}
use Rattle.stored_calls.specs.declared.StoredCounts.{StoredCounts}
use Rattle.quoting_unit.specs.Interface.{last_number, number_in, Lent}
use Rattle.quoting_unit.specs.Unit.{UnitCall, price, slip_text, new_ledger, on_ledger, check_ledger, move_to_new, move_back}

-- the result of a call that is done where `done` holds, and whose refusals have these numbers
pub record Results (done : Type 0) (refusals : List ℕ) (result : ℕ) : Type 0 where
  pub done_gives_0 : done → result ≡ 0
  pub only_done_gives_0 : result ≡ 0 → done
  pub others_refuse : result ≢ 0 → one_of refusals (number_in result) ≡ true
  pub in_table : number_in result ≤ last_number

-- where a call whose buffers are long enough is done
abbrev pub IsDone : UnitCall → Lent → Type 0
IsDone (price book request) lent = (bill : Bill) × (price_of book request ≡ Ok bill)
IsDone (slip_text book request) lent = (size : ℕ) × (slip_written (price_of book request) lent.output ≡ Ok size)
IsDone new_ledger lent = is_made (new_stored_of lent.output).answer ≡ true
IsDone (on_ledger stored table_size call) lent = is_made (stored_call_of stored table_size call lent.output).answer ≡ true
IsDone (check_ledger stored table_size) lent = (counts : StoredCounts) × (check_stored_of stored table_size ≡ Ok counts)
IsDone (move_to_new file) lent = (size : ℕ) × ((moves.move_to_new file lent.output).answer ≡ Ok size)
IsDone (move_back file) lent = (size : ℕ) × ((moves.move_back file lent.output).answer ≡ Ok size)

-- the refusals that a call can come to: its own, and 14 for short buffers
abbrev pub pricing_numbers : List ℕ
pricing_numbers = file_does_not_walk ∷ check_differs ∷ value_not_listed ∷ zone_not_in_book ∷ bespoke_not_allowed ∷ output_too_short ∷ []

abbrev pub check_numbers : List ℕ
check_numbers = reading_numbers ++ (output_too_short ∷ [])

abbrev pub refusals_of : UnitCall → List ℕ
refusals_of (price book request) = pricing_numbers
refusals_of (slip_text book request) = output_too_short ∷ []
refusals_of new_ledger = output_too_short ∷ []
refusals_of (on_ledger stored table_size call) = stored_numbers call
refusals_of (check_ledger stored table_size) = check_numbers
refusals_of (move_to_new file) = moving_numbers
refusals_of (move_back file) = moving_back_numbers
