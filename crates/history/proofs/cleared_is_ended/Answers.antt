-- The theorem of Ended, by induction on the calls after.
use Rattle.history.proofs.Theorems.Ended.{cleared_is_ended}
use Rattle.history.proofs.cleared_is_ended.Goals as goal

pub returns : goal.returns
returns c = cleared_is_ended
