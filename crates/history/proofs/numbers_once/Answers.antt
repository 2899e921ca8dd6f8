-- The numbers of a history that a list of calls comes to.
use Rattle.history.proofs.Theorems.Ended.{numbers_once}
use Rattle.history.proofs.numbers_once.Goals as goal

pub returns : goal.returns
returns c = numbers_once
