-- One scheme more (said_more).
use Rattle.std.proofs.Common.{arith, get_or, length-set}
use Rattle.ledger.specs.Records.{no_scheme}
use Rattle.clearing.specs.Clearing.{ended_by}
use Rattle.clearing.proofs.Going.{said_more}
use Rattle.clearing.proofs.ended_schemes.Goals as goal

pub loop-k-preserved : goal.loop-k-preserved
loop-k-preserved c =
    record {
      places = simp length-set c.loop-k.invariant.places;
      said =
          said_more c.loop-k.going c.loop-k.k c.ended_by.result (λ j. ended_by c.args.month (get_or c.args.schemes.now j no_scheme))
          (omega (arith, c.loop-k.invariant.places, c.loop-k-test.true, c.requires)) c.loop-k.invariant.said c.ended_by.ensures;
    }
