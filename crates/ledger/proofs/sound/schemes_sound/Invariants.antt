-- The schemes from the loop's place on decide; each is judged by the tally at its place.
use Rattle.std.proofs.Common.{List, drop, length, ◌≡◌}
use Rattle.ledger.specs.Sound.{schemes_sound}
use Rattle.ledger.specs.Tallied.{Tallied}
use Rattle.ledger.specs.declared.records.Party.{Party}
use Rattle.ledger.proofs.sound.schemes_sound.Given as goal

abbrev pub invariant-loop-scheme : goal.invariant-loop-scheme
invariant-loop-scheme l =
    record {
      undecided : (parties : List Party) → Tallied l.schemes l.tallies parties →
          schemes_sound l.month parties l.schemes ≡ schemes_sound l.month parties (drop (length l.yielded) l.schemes);
    }
