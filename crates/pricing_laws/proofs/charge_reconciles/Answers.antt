-- Theorems that say several things at once.
use Rattle.charge.proofs.Theorems.Bill.{priced_within, priced_reconciles}
use Rattle.pricing_laws.proofs.charge_reconciles.Goals as goal

pub returns-clause-priced : goal.returns-clause-priced
returns-clause-priced c = priced_reconciles

pub returns-clause-limits : goal.returns-clause-limits
returns-clause-limits c = priced_within
