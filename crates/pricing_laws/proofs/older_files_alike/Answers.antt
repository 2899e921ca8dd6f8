-- The theorems of the price and of each file alone.
use Rattle.pricing_laws.proofs.Theorems.OlderBooks.{older_book_same}
use Rattle.pricing_laws.proofs.Theorems.OlderRequests.{older_request_same}
use Rattle.pricing_laws.proofs.Theorems.OlderPricing.{older_priced}
use Rattle.pricing_laws.proofs.older_files_alike.Goals as goal

pub returns-clause-priced : goal.returns-clause-priced
returns-clause-priced c = older_priced

pub returns-clause-book : goal.returns-clause-book
returns-clause-book c = older_book_same

pub returns-clause-request : goal.returns-clause-request
returns-clause-request c = older_request_same
