-- The loop keeps that the walk of the rest decides that of the file; an event ends within the rest, so each rest is shorter.
use Rattle.std.proofs.Common.{length}
use Rattle.event_file.proofs.WalkEvents.{EventsSoFar}
use Rattle.event_file.proofs.events.walk_events.Given as goal

abbrev pub invariant-loop-next : goal.invariant-loop-next
invariant-loop-next l = EventsSoFar l.fields l.rest

abbrev pub decreases-loop-next : goal.decreases-loop-next
decreases-loop-next l = length l.rest
