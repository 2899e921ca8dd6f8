-- Theorems that say two things at once.
use Rattle.discount.proofs.Theorems.DiscountBounds.{discount_bounds}
use Rattle.discount_table.proofs.Theorems.DiscountTable.{recurrence_at_each_entry}
use Rattle.pricing_laws.proofs.discount_factors.Goals as goal

pub returns-clause-bounds : goal.returns-clause-bounds
returns-clause-bounds c = discount_bounds

pub returns-clause-table : goal.returns-clause-table
returns-clause-table c = recurrence_at_each_entry
