-- Two figures between the same ends.
use Rattle.std.specs.Prelude.{◌+◌, ◌*◌, ◌≤◌, ◌<◌}
use Rattle.std.proofs.Common.{sym, subst, le_of_mul-le-mul_right, arith}
use Rattle.history.specs.Fair.{BoundFigures, Fair}
use Rattle.order_of_joiners.specs.Laws.{FairTwice}

-- the same bounds, by fee 0, for another party of that kVA
abbrev pub bounds_for : BoundFigures → BoundFigures → BoundFigures
bounds_for of party = record of { fee = 0; put_in = party.put_in; credited = party.credited }

above : (of one other : BoundFigures) → 0 < of.total_capacity → Fair (bounds_for of one) → Fair (bounds_for of other) →
    one.put_in + other.credited ≤ other.put_in + one.credited + 3 * of.joinings
above of one other positive fair fair_other =
    le_of_mul-le-mul_right {k = of.total_capacity} (omega (arith, fair.high, fair_other.low)) positive

pub fair_twice : FairTwice
fair_twice one other same fair fair_other =
    let here : Fair (bounds_for one one) = subst Fair (λ i. record one { fee = same.no_fee i }) fair in
    let there : Fair (bounds_for one other) =
    subst Fair
    (λ i.
    record {
      cost = sym same.cost i;
      fee = same.no_other_fee i;
      joinings = sym same.joinings i;
      total_capacity = sym same.total_capacity i;
      capacity = sym same.capacity i;
      put_in = other.put_in;
      credited = other.credited;
    })
    fair_other in
    record { not_above = above one one other (omega (arith, same.some_capacity)) here there; not_below = above one other one (omega (arith, same.some_capacity)) there here }
