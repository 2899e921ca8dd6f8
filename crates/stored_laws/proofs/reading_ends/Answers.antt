-- The letters' refusal by its theorem's own text; what reading promises by its ending is a theorem over a promise.
use Rattle.stored.proofs.Theorems.Promises.{promised_reading}
use Rattle.stored.proofs.Theorems.Reading.{read_refused_3}
use Rattle.stored_laws.proofs.reading_ends.Goals as goal

pub returns-clause-letters : goal.returns-clause-letters
returns-clause-letters c = read_refused_3

pub returns-clause-promised : goal.returns-clause-promised
returns-clause-promised c = promised_reading
