-- The theorems of AlteredFiles, one for each of the two files.
use Rattle.accept_rules.specs.Theorems.AlteredFiles.{altered_book_not_accepted, altered_request_not_accepted}
use Rattle.accept_rules.proofs.altered_files_refused.Goals as goal

pub returns : goal.returns
returns c = record { book = altered_book_not_accepted; request = altered_request_not_accepted }
