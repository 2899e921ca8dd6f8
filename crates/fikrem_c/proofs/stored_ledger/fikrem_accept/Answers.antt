-- The figures of an acceptance are bounded (`accepted_bounded`), and there is room for them; the ending that is promised tells the acceptance (`promised_stored`).
use Rattle.std.proofs.Common.{arith, sym, ap, ◌∙◌, rules}
use Rattle.numbers.specs.BigEndian.{Bytes}
use Rattle.quoting_unit.proofs.Theorems.UnitFigures.{accepted_bounded}
use Rattle.stored_calls.proofs.Theorems.StoredPromises.{promised_stored}
use Rattle.quoting_unit.specs.Interface.{lent_both, answer_after}
use Rattle.quoting_unit.specs.Unit.{CallLeaves}
use Rattle.quoting_unit.specs.declared.outcomes.Outcome.{Outcome}
use Rattle.fikrem_c.proofs.Accepting.{accepted_leaves}
use Rattle.fikrem_c.proofs.stored_ledger.fikrem_accept.Goals as goal

pub write_figures-requires : goal.write_figures-requires
write_figures-requires c =
    let args = c.args in
    let book : Bytes args.book.now = λ k. (c.type_inv.book k).fits in
    let request : Bytes args.request.now = λ k. (c.type_inv.request k).fits in (
      accepted_bounded args.stored.now args.table_size args.book.now args.request.now args.out.now _ _ book request
          (sym (rw c.in-Ok.is at (promised_stored _ _ _ _ _ _ c.accept_stored.ensures))),
      omega arith,
    )

pub returns-in-Ok : goal.returns-in-Ok
returns-in-Ok c =
    let args = c.args in
    let lent = lent_both args.out.now args.figures.now args.answer.now in
    let told = rw c.in-Ok.is at (promised_stored _ _ _ _ _ _ c.accept_stored.ensures) in
    let leaves = accepted_leaves args.stored.now args.table_size args.book.now args.request.now lent _ _ (search rules) (search rules) told in (
      c.write_answer.ensures.value ∙ ap (λ (o : Outcome). o.result) c.acceptance_outcome.ensures ∙ ap (λ (e : CallLeaves). e.result) leaves,
      c.accept_stored.ensures.output_after ∙ ap (λ (e : CallLeaves). e.lent.output) leaves,
      c.write_figures.ensures ∙ ap (λ (e : CallLeaves). e.lent.figures) leaves,
      c.write_answer.ensures.answer_after
          ∙ ap (λ (o : Outcome). answer_after o args.answer.now) c.acceptance_outcome.ensures
          ∙ ap (λ (e : CallLeaves). e.lent.answer) leaves,
    )
