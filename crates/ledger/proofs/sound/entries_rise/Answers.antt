-- The number at the loop's place stops the search, or is the one before the next place.
use Rattle.std.proofs.Common.{sym, ◌∙◌}
use Rattle.ledger.specs.Records.{no_party}
use Rattle.ledger.proofs.Rest.{rise_stops, rise_goes_on, rise_ends}
use Rattle.ledger.proofs.sound.entries_rise.Goals as goal

pub returns-then-entry-before : goal.returns-then-entry-before
returns-then-entry-before c =
    sym (c.loop-entry.invariant.undecided ∙ rise_stops (λ entry. entry.number) c.args.entries.now no_party c.args.next c.loop-entry.before c.loop-entry.entry-index c.loop-entry-test.true c.if-entry-before.true)

pub loop-entry-preserved : goal.loop-entry-preserved
loop-entry-preserved c =
    record {
      undecided =
          c.loop-entry.invariant.undecided
          ∙ rise_goes_on (λ entry. entry.number) c.args.entries.now no_party c.args.next c.loop-entry.before c.loop-entry.entry-index c.loop-entry-test.true c.if-entry-before.false;
    }

pub returns : goal.returns
returns c =
    sym (c.loop-entry.invariant.undecided ∙ rise_ends (λ entry. entry.number) c.args.entries.now no_party c.args.next c.loop-entry.before c.loop-entry.entry-index c.loop-entry-test.false)
