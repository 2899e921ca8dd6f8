-- An entry of the scheme gets its credit, and another stays as it is (credited_none before the first, then credited_own, credited_other).
use Rattle.acceptance.proofs.Booking.{credited_none, credited_own, credited_other}
use Rattle.acceptance.proofs.accept.credit_scheme.Goals as goal
use Rattle.acceptance.proofs.accept.credit_scheme.Goals.{then-party-scheme, else-party-scheme}

pub loop-i-init : goal.loop-i-init
loop-i-init c = credited_none c.args.entries.now c.args.scheme c.args.amount c.args.total

pub loop-i-preserved : goal.loop-i-preserved
loop-i-preserved c = elim c.if-party-scheme.branch [
  | then-party-scheme w ↦
      rw (w.entries-is, w.credit_one.ensures, w.capacity-is, w.credited-is, w.from-capacity.ensures)
      (credited_own c.loop-i.invariant c.loop-i-test.true w.if-party-scheme.true)
  | else-party-scheme w ↦ rw (w.entries-is, w.capacity-is, w.credited-is) (credited_other c.loop-i.invariant c.loop-i-test.true w.if-party-scheme.false)
]
