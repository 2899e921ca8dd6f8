-- The loop keeps that sum is the revenue of the years before n, each at its discount factor, and at most the greatest of so many years: 31 of them fit 64 bits.
use Rattle.std.proofs.Common.{◌*◌, ◌≡◌, ◌≤◌}
use Rattle.revenue.specs.Revenue.{incremental_revenue}
use Rattle.revenue.specs.RevenueLimits.{highest_year_revenue}
use Rattle.revenue.proofs.incremental_revenue.Given as goal

abbrev pub invariant-loop-n : goal.invariant-loop-n
invariant-loop-n l = (l.sum ≡ incremental_revenue l.distribution l.transmission l.b l.n) × (l.sum ≤ 2 * highest_year_revenue * l.n)
