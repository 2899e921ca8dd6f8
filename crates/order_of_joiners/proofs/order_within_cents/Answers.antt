-- The theorem of OrderWithinCents, which rests on demand 3 for each of the two lists.
use Rattle.order_of_joiners.proofs.Theorems.OrderWithinCents.{order_within_cents}
use Rattle.order_of_joiners.proofs.order_within_cents.Goals as goal

pub returns : goal.returns
returns c = order_within_cents
