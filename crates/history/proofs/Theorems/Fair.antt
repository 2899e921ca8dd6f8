-- A party's two bounds at an opening, at its own joining and after a later one: G and each share are within a cent of what the rules divide.
use Rattle.std.specs.Prelude.{ℕ, ◌+◌, ◌*◌, ◌≤◌, ◌<◌, ◌≡◌}
use Rattle.std.proofs.Common.{ap, mul-le-mul_right, le_of_mul-le-mul_right, arith}
use Rattle.calls.specs.Rules.{contribution}
use Rattle.calls.proofs.Theorems.Rules.{contribution_low, contribution_high}
use Rattle.history.specs.Fair.{BoundFigures, Fair}
use Rattle.history.proofs.Theorems.Split.{Share}

-- ---- at its own opening or joining
abbrev pub at_opening : (cost fee capacity : ℕ) → BoundFigures
at_opening cost fee capacity =
    record { cost = cost; fee = fee; joinings = 0; total_capacity = capacity; capacity = capacity; put_in = cost; credited = 0 }

pub fair_opened : (cost fee capacity : ℕ) → Fair (at_opening cost fee capacity)
fair_opened cost fee capacity = record { low = omega arith; high = omega arith }

-- `total` is all earlier parties' kVA, `joinings` how many joined before
abbrev pub at_joining : (cost fee joinings total capacity : ℕ) → BoundFigures
at_joining cost fee joinings total capacity =
    record {
      cost = cost;
      fee = fee;
      joinings = joinings + 1;
      total_capacity = total + capacity;
      capacity = capacity;
      put_in = contribution cost capacity total;
      credited = 0;
    }

pub fair_joiner : (cost fee joinings total capacity : ℕ) → 0 < total + capacity → Fair (at_joining cost fee joinings total capacity)
fair_joiner cost fee joinings total capacity positive = record {
  low = omega (arith, contribution_high cost capacity total positive);
  high = omega (arith, contribution_low cost capacity total);
}

-- ---- after a later joining

-- an earlier party's figures before it; the joiner's kVA, what is shared of its G, and the party's share
pub record LaterJoining : Type 0 where
  pub before : BoundFigures
  pub joiner_capacity : ℕ
  pub amount : ℕ
  pub share : ℕ

abbrev pub after_joining : LaterJoining → BoundFigures
after_joining joining =
    record {
      cost = joining.before.cost;
      fee = joining.before.fee;
      joinings = joining.before.joinings + 1;
      total_capacity = joining.before.total_capacity + joining.joiner_capacity;
      capacity = joining.before.capacity;
      put_in = joining.before.put_in;
      credited = joining.before.credited + joining.share;
    }

pub record Credits (joining : LaterJoining) : Type 0 where
  pub positive : 0 < joining.before.total_capacity
  pub part : joining.before.capacity ≤ joining.before.total_capacity
  pub taken : contribution joining.before.cost joining.joiner_capacity joining.before.total_capacity ≡ joining.amount + joining.before.fee
  pub shared : Share joining.amount joining.before.total_capacity joining.before.capacity joining.share

module _ (joining : LaterJoining) (credits : Credits joining) (before : Fair joining.before) where
  abbrev was : BoundFigures
  was = joining.before

  abbrev now : BoundFigures
  now = after_joining joining

  abbrev G : ℕ
  G = contribution was.cost joining.joiner_capacity was.total_capacity

  stays_low : now.cost * now.capacity + now.credited * now.total_capacity ≤ (now.put_in + now.joinings) * now.total_capacity
  stays_low =
      let less : joining.amount ≤ G = omega (arith, credits.taken) in
      le_of_mul-le-mul_right
      (omega (
        arith,
        mul-le-mul_right now.total_capacity before.low,
        mul-le-mul_right now.total_capacity credits.shared.high,
        mul-le-mul_right was.capacity (contribution_low was.cost joining.joiner_capacity was.total_capacity),
        mul-le-mul_right (was.capacity * now.total_capacity) less,
      ))
      credits.positive

  -- what the upper bound grows by
  growth : was.cost * joining.joiner_capacity * was.capacity ≤ (joining.share + (2 + was.fee)) * (was.total_capacity * now.total_capacity)
  growth =
      omega (
        arith,
        mul-le-mul_right now.total_capacity credits.shared.low,
        mul-le-mul_right was.capacity
            (contribution_high was.cost joining.joiner_capacity was.total_capacity (omega (arith, credits.positive))),
        ap (λ (y : ℕ). y * (was.capacity * now.total_capacity)) credits.taken,
        mul-le-mul_right ((1 + was.fee) * now.total_capacity) credits.part,
      )

  stays_high : now.put_in * now.total_capacity ≤ now.cost * now.capacity + now.credited * now.total_capacity + (2 + now.fee) * now.joinings * now.total_capacity
  stays_high = le_of_mul-le-mul_right (omega (arith, mul-le-mul_right now.total_capacity before.high, growth)) credits.positive

  -- one more joining keeps an earlier party's bounds
  pub fair_joined : Fair now
  fair_joined = record { low = stays_low; high = stays_high }
