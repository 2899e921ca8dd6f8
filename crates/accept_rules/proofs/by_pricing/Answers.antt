-- The theorems of AcceptByPricing: what accept answers and leaves follows from what pricing says of the two files.
use Rattle.accept_rules.specs.Theorems.AcceptByPricing.{answered_by_pricing, leaves_by_pricing}
use Rattle.accept_rules.proofs.by_pricing.Goals as goal

pub returns : goal.returns
returns c = record { answers = answered_by_pricing; leaves = leaves_by_pricing }
