-- A refused reading is the answer.
use Rattle.std.proofs.Common.{rules}
use Rattle.stored_calls.proofs.Theorems.StoredPromises.{check_promise}
use Rattle.stored_calls.proofs.check_stored.Goals as goal

pub returns-in_err-read_stored : goal.returns-in_err-read_stored
returns-in_err-read_stored c = check_promise c.args.file.now c.args.room (search rules)
