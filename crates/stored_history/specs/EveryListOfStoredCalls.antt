-- The stored form of a state.
use Rattle.std.specs.Prelude.{ℕ, List}
use Rattle.calls.specs.Carried.{State}
use Rattle.stored.specs.Form.{stored_form}
use Rattle.stored.specs.declared.form.Form.TheVariants.{Pio2}

abbrev pub form_of : State → List ℕ
form_of state = stored_form Pio2 state.ledger state.table
