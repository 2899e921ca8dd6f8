-- The loop keeps the tallies of the entries passed, each at its scheme's place, and that the entries from its place on decide.
use Rattle.ledger.proofs.Tallying.{Kept}
use Rattle.ledger.proofs.sound.tally_entries.Given as goal

abbrev pub invariant-loop-party : goal.invariant-loop-party
invariant-loop-party l = Kept l.schemes l.tallies l.parties l.party-index
