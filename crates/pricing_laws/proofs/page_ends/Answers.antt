-- The law of the promise is a theorem beside it.
use Rattle.page_text.proofs.Theorems.PageEnding.{promised_page}
use Rattle.pricing_laws.proofs.page_ends.Goals as goal

pub returns-clause-promised : goal.returns-clause-promised
returns-clause-promised c = promised_page
