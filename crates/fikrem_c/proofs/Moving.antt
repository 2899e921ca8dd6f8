-- What a move leaves where the answer has its places, by what it answers.
use Rattle.std.specs.Prelude.{ℕ, ◌≡◌, List, false}
use Rattle.std.proofs.Common.{sym, ap, ◌∙◌}
use Rattle.stored.specs.Moves as moves
use Rattle.stored.specs.Writing.{Written, WriteEnd}
use Rattle.quoting_unit.specs.Interface.{Lent, answer_short}
use Rattle.quoting_unit.specs.Unit.{CallLeaves, move_to_new, move_back, move_ending, leaves_by, unit_call}
use Rattle.quoting_unit.proofs.Theorems.UnitBuffers.{leaves_if}

abbrev leaves : WriteEnd → Lent → Written → CallLeaves
leaves end lent answer = leaves_by (record { ending = move_ending answer; output = end.output; figures = lent.figures }) lent

module _ (file : List ℕ) (lent : Lent) {answer : Written} (long : answer_short lent ≡ false) where
  pub to_new_leaves : answer ≡ (moves.move_to_new file lent.output).answer → leaves (moves.move_to_new file lent.output) lent answer ≡ unit_call (move_to_new file) lent
  to_new_leaves told = ap (leaves (moves.move_to_new file lent.output) lent) told ∙ sym (ap (leaves_if (move_to_new file) lent) long)

  pub back_leaves : answer ≡ (moves.move_back file lent.output).answer → leaves (moves.move_back file lent.output) lent answer ≡ unit_call (move_back file) lent
  back_leaves told = ap (leaves (moves.move_back file lent.output) lent) told ∙ sym (ap (leaves_if (move_back file) lent) long)
