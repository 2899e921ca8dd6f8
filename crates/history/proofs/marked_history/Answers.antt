-- The histories are computed in proofs/Cases.
use Rattle.history.proofs.Cases.Accounts.{marked_history}
use Rattle.history.proofs.Cases.BuildingOn.{built_on}
use Rattle.history.proofs.Cases.Cleared.{cleared_history}
use Rattle.history.proofs.Cases.Fair.{tight_bounds}
use Rattle.history.proofs.marked_history.Goals as goal

pub returns : goal.returns
returns c = record { marked = marked_history; built_on = built_on; cleared = cleared_history; bounds = tight_bounds }
