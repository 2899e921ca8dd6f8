-- The numbers from the loop's place on decide, after the one before it.
use Rattle.std.proofs.Common.{drop, map, ◌≡◌}
use Rattle.ledger.specs.Sound.{rise_to}
use Rattle.ledger.proofs.sound.entries_rise.Given as goal

abbrev pub invariant-loop-entry : goal.invariant-loop-entry
invariant-loop-entry l =
    record { undecided : rise_to l.next 0 (map (λ entry. entry.number) l.entries) ≡ rise_to l.next l.before (map (λ entry. entry.number) (drop l.entry-index l.entries)) }
