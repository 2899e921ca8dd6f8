-- The number at the loop's place stops the search, or is the one before the next place.
use Rattle.std.proofs.Common.{sym, ◌∙◌}
use Rattle.ledger.specs.Records.{no_scheme}
use Rattle.ledger.proofs.Rest.{rise_stops, rise_goes_on, rise_ends}
use Rattle.ledger.proofs.sound.schemes_rise.Goals as goal

pub returns-then-scheme-before : goal.returns-then-scheme-before
returns-then-scheme-before c =
    sym (c.loop-scheme.invariant.undecided ∙ rise_stops (λ scheme. scheme.number) c.args.schemes.now no_scheme c.args.next c.loop-scheme.before c.loop-scheme.scheme-index c.loop-scheme-test.true c.if-scheme-before.true)

pub loop-scheme-preserved : goal.loop-scheme-preserved
loop-scheme-preserved c =
    record {
      undecided =
          c.loop-scheme.invariant.undecided
          ∙ rise_goes_on (λ scheme. scheme.number) c.args.schemes.now no_scheme c.args.next c.loop-scheme.before c.loop-scheme.scheme-index c.loop-scheme-test.true c.if-scheme-before.false;
    }

pub returns : goal.returns
returns c =
    sym (c.loop-scheme.invariant.undecided ∙ rise_ends (λ scheme. scheme.number) c.args.schemes.now no_scheme c.args.next c.loop-scheme.before c.loop-scheme.scheme-index c.loop-scheme-test.false)
