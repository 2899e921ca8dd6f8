-- The limits of an accepted request are a theorem over the request that is read.
use Rattle.request.proofs.Theorems.RequestLimits.{request_within_limits}
use Rattle.file_laws.proofs.accepted_request.Goals as goal

pub returns-clause-limits : goal.returns-clause-limits
returns-clause-limits c = λ number file request. request_within_limits number file {request = request}
