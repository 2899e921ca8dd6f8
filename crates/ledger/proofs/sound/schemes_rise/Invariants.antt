-- The numbers from the loop's place on decide, after the one before it.
use Rattle.std.proofs.Common.{drop, map, ◌≡◌}
use Rattle.ledger.specs.Sound.{rise_to}
use Rattle.ledger.proofs.sound.schemes_rise.Given as goal

abbrev pub invariant-loop-scheme : goal.invariant-loop-scheme
invariant-loop-scheme l =
    record { undecided : rise_to l.next 0 (map (λ scheme. scheme.number) l.schemes) ≡ rise_to l.next l.before (map (λ scheme. scheme.number) (drop l.scheme-index l.schemes)) }
