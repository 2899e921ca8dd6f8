-- The total is K of the entries passed, and at most 4294967295 for each of them, so no sum overflows.
use Rattle.std.proofs.Common.{◌*◌, ◌≡◌, ◌≤◌}
use Rattle.verdict.proofs.Deciding.{capacity_up_to}
use Rattle.verdict.proofs.capacity_of.Given as goal

abbrev pub invariant-loop-party : goal.invariant-loop-party
invariant-loop-party l =
    record {
      total : l.total ≡ capacity_up_to l.scheme l.entries l.party-index;
      within : l.total ≤ 4294967295 * l.party-index;
    }
