-- The ending that is promised tells the move's answer (promised_move), and the outcome goes by it.
use Rattle.std.proofs.Common.{ap, rules, ◌∙◌}
use Rattle.stored.proofs.Theorems.MoveEnds.{promised_move}
use Rattle.quoting_unit.specs.Interface.{lent_output, answer_after}
use Rattle.quoting_unit.specs.Unit.{CallLeaves}
use Rattle.quoting_unit.specs.declared.outcomes.Outcome.{Outcome}
use Rattle.fikrem_c.proofs.Moving.{to_new_leaves}
use Rattle.fikrem_c.proofs.stored_ledger.fikrem_move_to_new.Goals as goal

pub returns : goal.returns
returns c =
    let args = c.args in
    let lent = lent_output args.out.now args.answer.now in
    let told = promised_move args.file.now args.out.now _ _ c.move_to_new-moved.ensures in
    let leaves = to_new_leaves args.file.now lent (search rules) told in (
      c.write_answer.ensures.value ∙ ap (λ (o : Outcome). o.result) c.move_outcome.ensures ∙ ap (λ (e : CallLeaves). e.result) leaves,
      c.move_to_new-moved.ensures.output_after ∙ ap (λ (e : CallLeaves). e.lent.output) leaves,
      c.write_answer.ensures.answer_after
          ∙ ap (λ (o : Outcome). answer_after o args.answer.now) c.move_outcome.ensures
          ∙ ap (λ (e : CallLeaves). e.lent.answer) leaves,
    )
