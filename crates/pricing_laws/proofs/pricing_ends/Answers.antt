-- The laws of the ending are theorems beside it.
use Rattle.charge.proofs.Theorems.PriceEnding.{pricing_by_ending, promised_price}
use Rattle.pricing_laws.proofs.pricing_ends.Goals as goal

pub returns-clause-ending : goal.returns-clause-ending
returns-clause-ending c = pricing_by_ending

pub returns-clause-promised : goal.returns-clause-promised
returns-clause-promised c = promised_price
