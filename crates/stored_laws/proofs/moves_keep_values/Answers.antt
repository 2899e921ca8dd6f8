-- What either move keeps is a theorem of MoveValues.
use Rattle.stored.proofs.Theorems.MoveValues.{move_keeps_values, move_back_keeps_values}
use Rattle.stored_laws.proofs.moves_keep_values.Goals as goal

pub returns-clause-to_new : goal.returns-clause-to_new
returns-clause-to_new c = move_keeps_values

pub returns-clause-back : goal.returns-clause-back
returns-clause-back c = move_back_keeps_values
