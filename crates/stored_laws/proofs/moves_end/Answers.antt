-- The theorems of MoveEnds, for both moves.
use Rattle.stored.proofs.Theorems.MoveEnds.{move_refusal_numbers, move_back_refusal_numbers, refused_move_changes_nothing, refused_move_back_changes_nothing, move_by_number, move_back_by_number, promised_move, promised_move_back}
use Rattle.stored_laws.proofs.moves_end.Goals as goal

pub returns-clause-numbers : goal.returns-clause-numbers
returns-clause-numbers c = λ file out. (move_refusal_numbers file out, move_back_refusal_numbers file out)

pub returns-clause-nothing : goal.returns-clause-nothing
returns-clause-nothing c = λ file out r. (refused_move_changes_nothing file out r, refused_move_back_changes_nothing file out r)

pub returns-clause-done : goal.returns-clause-done
returns-clause-done c = λ file out. (move_by_number file out, move_back_by_number file out)

pub returns-clause-promised : goal.returns-clause-promised
returns-clause-promised c = λ file out answer output. (promised_move file out answer output, promised_move_back file out answer output)
