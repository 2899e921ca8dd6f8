-- One digit fewer each time.
use Rattle.text_output.proofs.+put_last_digits.Given as goal

abbrev pub decreases-put_last_digits : goal.decreases-put_last_digits
decreases-put_last_digits l = l.count
