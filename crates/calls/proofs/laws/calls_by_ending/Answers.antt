-- What is promised by the ending is a theorem over a promise.
use Rattle.calls.proofs.Theorems.Promised.{promised_answers}
use Rattle.calls.proofs.laws.calls_by_ending.Goals as goal

pub returns-clause-promised : goal.returns-clause-promised
returns-clause-promised c = promised_answers
