-- That what is written fits by its theorem's own text; what writing promises by its ending is a theorem over a promise.
use Rattle.stored.proofs.Theorems.Promises.{promised_writing}
use Rattle.stored.proofs.Theorems.Writing.{written_within}
use Rattle.stored_laws.proofs.writing_ends.Goals as goal

pub returns-clause-within : goal.returns-clause-within
returns-clause-within c = λ ledger parties room out size. written_within ledger parties room out

pub returns-clause-promised : goal.returns-clause-promised
returns-clause-promised c = promised_writing
