-- The loop keeps that f is the discount factor of year n, and the sum within its limits.
use Rattle.std.proofs.Common.{◌≡◌, ◌≤◌}
use Rattle.discount.specs.Discount.{discount}
use Rattle.discount.specs.DiscountLimits.{highest_discount}
use Rattle.printed_figures.specs.Tolerance.{limit}
use Rattle.printed_figures.proofs.tolerance.near_stream.Given as goal

abbrev pub invariant-loop-n : goal.invariant-loop-n
invariant-loop-n l = (l.sum.0 ≤ limit) × (l.sum.1.0 ≤ limit) × (l.f ≡ discount l.b l.n) × (l.f ≤ highest_discount)
