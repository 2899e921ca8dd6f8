-- A party's two bounds, as a law of their own.
use Rattle.std.specs.Prelude.{ℕ, ◌+◌, ◌*◌, ◌≤◌}

-- what they are made of: a scheme's cost, fee and joinings and all its parties' kVA; the party's kVA, put in and credited
pub record BoundFigures : Type 0 where
  pub cost : ℕ
  pub fee : ℕ
  pub joinings : ℕ
  pub total_capacity : ℕ
  pub capacity : ℕ
  pub put_in : ℕ
  pub credited : ℕ

-- What a party put in less what it was credited, held against scheme cost × its kVA / all parties' kVA: at most 1 cent for each joining below, and at
-- most 2 cents and the fee for each joining above. Multiplied out by all parties' kVA, and with no difference, which could be negative.
pub record Fair (of : BoundFigures) : Type 0 where
  pub low : of.cost * of.capacity + of.credited * of.total_capacity ≤ (of.put_in + of.joinings) * of.total_capacity
  pub high : of.put_in * of.total_capacity ≤ of.cost * of.capacity + of.credited * of.total_capacity + (2 + of.fee) * of.joinings * of.total_capacity
