-- The theorems of CountedByAnswers, which goes by the verdict's cases, and of CreditedGrows.
use Rattle.history.proofs.Theorems.CountedByAnswers.{counted_by_answers}
use Rattle.history.proofs.Theorems.CreditedGrows.{credited_in_joinings, cleared_whole}
use Rattle.history.proofs.counted_by_answers.Goals as goal

pub returns : goal.returns
returns c = record { accepts = counted_by_answers; others = credited_in_joinings; cleared = cleared_whole }
