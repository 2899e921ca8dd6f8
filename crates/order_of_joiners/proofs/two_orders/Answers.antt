-- The theorem of TwoOrders, by which both lists of calls leave the same parties.
use Rattle.order_of_joiners.proofs.Theorems.TwoOrders.{two_orders}
use Rattle.order_of_joiners.proofs.two_orders.Goals as goal

pub returns : goal.returns
returns c = two_orders
