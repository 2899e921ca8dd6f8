-- The call leaves the ledger sound and ends as the definition says (counts_kept, call_ends): that the month fits is put in by hand.
use Rattle.std.proofs.Common.{ap, rules, ◌∙◌}
use Rattle.stored_calls.proofs.Ends.{counts_kept, call_ends}
use Rattle.stored_calls.proofs.Theorems.StoredPromises.{stored_promise}
use Rattle.stored_calls.proofs.clear_stored.Goals as goal

pub returns : goal.returns
returns c =
    let end = call_ends c.args.file.now c.clear_sound-answer.ensures (search rules) c.ranges.month.fits c.args.out.now in
    stored_promise c.args.file.now c.args.room _ c.args.out.now (c.write_changed.ensures.result_value ∙ ap (λ e. e.answer) end) (c.write_changed.ensures.out_after ∙ ap (λ e. e.output) end)

pub write_changed-requires : goal.write_changed-requires
write_changed-requires c = counts_kept c.args.file.now c.clear_sound-answer.ensures (search rules) c.ranges.month.fits

pub returns-in_err-map_err : goal.returns-in_err-map_err
returns-in_err-map_err c = stored_promise c.args.file.now c.args.room _ c.args.out.now (search rules) (search rules)
