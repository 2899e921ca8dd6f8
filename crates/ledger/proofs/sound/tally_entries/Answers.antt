-- Before the first entry and after each the tallies are those of the entries passed (kept_start, kept_more): `search` closes these, and a hint is for `grind`.
use Rattle.std.proofs.Common.{rules}
use Rattle.ledger.proofs.Tallying.{kept_start, kept_more}
use Rattle.ledger.proofs.sound.tally_entries.Goals as goal

pub loop-party-init : goal.loop-party-init
loop-party-init c = search (rules, kept_start)

pub loop-party-preserved : goal.loop-party-preserved
loop-party-preserved c = search (rules, kept_more c.loop-party.invariant)
