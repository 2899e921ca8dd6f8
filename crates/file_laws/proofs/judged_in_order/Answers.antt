-- The law is a theorem beside it.
use Rattle.file_laws.proofs.Theorems.InOrder.{in_order_same}
use Rattle.file_laws.proofs.judged_in_order.Goals as goal

pub returns : goal.returns
returns c = λ judged first second first' second'. in_order_same
