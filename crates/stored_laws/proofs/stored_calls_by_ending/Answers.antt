-- What the calls on stored bytes and their check promise by their endings are theorems over a promise.
use Rattle.stored_calls.proofs.Theorems.StoredPromises.{promised_stored, promised_new, promised_check}
use Rattle.stored_laws.proofs.stored_calls_by_ending.Goals as goal

pub returns-clause-promised : goal.returns-clause-promised
returns-clause-promised c = promised_stored

pub returns-clause-promised_new : goal.returns-clause-promised_new
returns-clause-promised_new c = promised_new

pub returns-clause-promised_check : goal.returns-clause-promised_check
returns-clause-promised_check c = promised_check
