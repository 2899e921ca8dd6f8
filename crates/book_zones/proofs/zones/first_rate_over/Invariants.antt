-- The outer loop keeps that the zones from its own on decide, the inner that the tiers from its own on and then the later zones do.
use Rattle.std.specs.Prelude.{Ok}
use Rattle.std.proofs.Common.{[], drop, get_or, ◌*◌, ◌+◌, ◌≡◌}
use Rattle.field_values.specs.Judged.{in_order}
use Rattle.book_zones.specs.ZoneScans.{judge_rows}
use Rattle.book_zones.proofs.Scanning.{judge_tiers}
use Rattle.book_zones.proofs.zones.first_rate_over.Given as goal

abbrev pub invariant-zones : goal.invariant-zones
invariant-zones l =
    (l.judged ≡ Ok tt) × (judge_rows l.apart l.first l.rates ≡ judge_rows l.apart (l.first + l.apart * l.zone) (drop l.zone l.rates))

abbrev pub invariant-loop-tier : goal.invariant-loop-tier
invariant-loop-tier l =
    (l.judged ≡ Ok tt) × (
    judge_rows l.apart l.first l.rates
    ≡ in_order (judge_tiers (l.first + l.apart * l.zone) (get_or l.rates l.zone []) l.tier) (judge_rows l.apart (l.first + l.apart * (l.zone + 1)) (drop (l.zone + 1) l.rates))
    )
