-- The loop keeps that the zones from its own on decide, with one above the last number as the least; a turn is rise_on.
use Rattle.std.proofs.Common.{drop, ◌*◌, ◌+◌, ◌≡◌, ◌≤◌}
use Rattle.book_zones.specs.ZoneScans.{judge_rise}
use Rattle.book_zones.proofs.zones.first_number_not_above.Given as goal

abbrev pub invariant-loop-zone : goal.invariant-loop-zone
invariant-loop-zone l =
    (l.least ≤ 65536) × (judge_rise l.apart 0 l.first l.numbers ≡ judge_rise l.apart l.least (l.first + l.apart * l.zone) (drop l.zone l.numbers))
