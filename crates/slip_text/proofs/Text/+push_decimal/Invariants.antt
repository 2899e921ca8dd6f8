-- A tenth of a number of two digits or more is less than the number.
use Rattle.slip_text.proofs.Text.+push_decimal.Given as goal

abbrev pub decreases-push_decimal : goal.decreases-push_decimal
decreases-push_decimal l = l.n
