-- Both laws are theorems beside it.
use Rattle.tagged.proofs.Theorems.File.{stands_means}
use Rattle.tagged.proofs.Theorems.Ending.{file_answer_by_ending}
use Rattle.file_laws.proofs.file_stands_or_ends.Goals as goal

pub returns-clause-stands : goal.returns-clause-stands
returns-clause-stands c = stands_means

pub returns-clause-ends : goal.returns-clause-ends
returns-clause-ends c = file_answer_by_ending
