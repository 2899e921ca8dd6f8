-- What holds of any amounts, by the theorems beside the page.
use Rattle.page_text.proofs.Theorems.ReadBack.{one_value, one_amount}
use Rattle.page_text.proofs.Theorems.PageShape.{amount_read_back}
use Rattle.pricing_laws.proofs.page_reads.Goals as goal

pub returns-clause-any_amounts : goal.returns-clause-any_amounts
returns-clause-any_amounts c = amount_read_back

pub returns-clause-one_value : goal.returns-clause-one_value
returns-clause-one_value c = one_value

pub returns-clause-one_amount : goal.returns-clause-one_amount
returns-clause-one_amount c = one_amount
