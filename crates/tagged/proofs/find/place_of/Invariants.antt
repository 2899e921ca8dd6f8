-- The loop keeps that the search in the rest decides that in the file; a whole field ends within the rest, so each rest is shorter.
use Rattle.std.proofs.Common.{length}
use Rattle.tagged.proofs.Finding.{SearchSoFar}
use Rattle.tagged.proofs.find.place_of.Given as goal

abbrev pub invariant-loop-len : goal.invariant-loop-len
invariant-loop-len l = SearchSoFar l.tag l.fields l.rest l.at

abbrev pub decreases-loop-len : goal.decreases-loop-len
decreases-loop-len l = length l.rest
