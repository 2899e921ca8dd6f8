-- A refused reading is the call's answer, with the output as it was.
use Rattle.std.proofs.Common.{rules}
use Rattle.stored_calls.proofs.Theorems.StoredPromises.{stored_promise}
use Rattle.stored_calls.proofs.pay_out_stored.Goals as goal

pub returns-in_err-map_err : goal.returns-in_err-map_err
returns-in_err-map_err c = stored_promise c.args.file.now c.args.room _ c.args.out.now (search rules) (search rules)
