-- The entries passed have their credits; the running capacity is at most K, so products fit.
use Rattle.acceptance.proofs.Booking.{Credited}
use Rattle.acceptance.proofs.accept.credit_scheme.Given as goal

abbrev pub invariant-loop-i : goal.invariant-loop-i
invariant-loop-i l = Credited l.fn.entries l.scheme l.amount l.total l.entries l.capacity l.credited l.i
