-- Each way on, or out, of the loop is the definition's at the rest.
use Rattle.event_file.proofs.WalkEvents.{goes_on, ends_here, stops_here}
use Rattle.event_file.proofs.events.walk_events.Goals as goal

pub loop-next-preserved : goal.loop-next-preserved
loop-next-preserved c = goes_on _ _ c.loop-next.invariant c.in-Some.ensures.stands _ c.in-Some.ensures.rest.bytes

pub returns-then-rest-eq0 : goal.returns-then-rest-eq0
returns-then-rest-eq0 c = ends_here _ _ c.loop-next.invariant c.in_default.ensures c.if-rest-eq0.true

pub returns : goal.returns
returns c = stops_here _ _ c.loop-next.invariant c.in_default.ensures c.if-rest-eq0.false
