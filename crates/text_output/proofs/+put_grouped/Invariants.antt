-- A thousandth of a number of four digits or more is less than the number.
use Rattle.text_output.proofs.+put_grouped.Given as goal

abbrev pub decreases-put_grouped : goal.decreases-put_grouped
decreases-put_grouped l = l.n
