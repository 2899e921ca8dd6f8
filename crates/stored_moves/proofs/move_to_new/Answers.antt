-- The move ends as reading and writing do (to_new_refused, to_new_ends).
use Rattle.std.proofs.Common.{ap, rules, sym, ◌∙◌}
use Rattle.stored.proofs.Theorems.MoveEnds.{move_promise}
use Rattle.stored_moves.proofs.Ends.{counts, to_new_refused, to_new_ends}
use Rattle.stored.specs.declared.form.Form.TheVariants.{Pion}
use Rattle.stored_moves.proofs.move_to_new.Goals as goal

pub returns-in_err-read_form : goal.returns-in_err-read_form
returns-in_err-read_form c =
    let end = to_new_refused c.args.file.now c.args.out.now {r = c.in_err-read_form.field-0.0} (search rules) in
    move_promise c.args.file.now c.args.out.now (search rules ∙ sym (ap (λ e. e.answer) end)) (sym (ap (λ e. e.output) end))

pub write_form-requires : goal.write_form-requires
write_form-requires c = counts Pion c.args.file.now {ledger = c.read_form.new.ledger} {parties = c.read_form.new.parties} (search rules)

pub returns : goal.returns
returns c =
    let end = to_new_ends c.args.file.now c.args.out.now {ledger = c.read_form.new.ledger} {parties = c.read_form.new.parties} (search rules) in
    move_promise c.args.file.now c.args.out.now (c.write_form.ensures.value ∙ sym (ap (λ e. e.answer) end))
    (c.write_form.ensures.out_after ∙ sym (ap (λ e. e.output) end))
