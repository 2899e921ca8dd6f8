-- Parties of an account and of a table, and how many cents two lie apart: at the bound and one past it, to either side, and below 0.
use Rattle.std.specs.Prelude.{ℕ, ◌≡◌, refl, true, false, [], ◌∷◌}
use Rattle.std.proofs.Common.{arith}
use Rattle.ledger.specs.Records.{party_of, new_ledger}
use Rattle.calls.specs.Calls.{state_of}
use Rattle.history.specs.History.{Account}
use Rattle.history.specs.Cases.Accounts.{enters, credit}
use Rattle.history.specs.Cases.BuildingBooks.{first_terms, building_bill}
use Rattle.order_of_joiners.specs.Distance.{Part, WithinCents, cents_for, part_by, parts_of, parts_on}

-- kVA, put in, credited
abbrev pub part : ℕ → ℕ → ℕ → Part
part capacity put_in credited = record { capacity = capacity; put_in = put_in; credited = credited }

-- entry 5 joined after entry 2, which it credited 30; and entry 7 after both
abbrev account : Account
account =
    record {
      entered =
          enters 1 7 50 false (building_bill first_terms 0 9 1) (credit 2 4 ∷ credit 5 6 ∷ []) ∷
          enters 1 5 40 false (building_bill first_terms 0 8 1) (credit 2 30 ∷ []) ∷
          enters 1 2 100 true (building_bill first_terms 100 3 0) [] ∷
          [];
      paid = record { scheme = 1; entry = 2; amount = 1 } ∷ [];
    }

pub figures_hold :
    (cents_for 0 ∷ cents_for 1 ∷ cents_for 10 ∷ [] ≡ 0 ∷ 3 ∷ 30 ∷ [])
    × (part_by (record { cost = 1; fee = 2; joinings = 3; total_capacity = 4; capacity = 5; put_in = 6; credited = 7 }) ≡ part 5 6 7)
    × (parts_of account ≡ part 9 50 0 ∷ part 8 40 6 ∷ part 3 100 34 ∷ [])
    -- the oldest counts, whatever it credited
    × (parts_of (record { entered = enters 1 2 100 true (building_bill first_terms 100 3 0) (credit 2 9 ∷ []) ∷ []; paid = [] }) ≡ part 3 100 9 ∷ [])
    × (parts_of (record { entered = []; paid = [] }) ≡ [])
figures_hold = (refl, refl, refl, refl, refl)

-- three entries of a table of four: two are of scheme 1, and the record past the last isn't one
pub shown_parts_hold :
    let state = state_of (record new_ledger { entries = 3 }) (party_of 2 1 21 22 23 24 25 ∷ party_of 4 2 41 42 43 44 45 ∷ party_of 5 1 51 52 53 54 55 ∷ party_of 6 1 61 62 63 64 65 ∷ []) in
    (parts_on 1 state ≡ part 22 23 24 ∷ part 52 53 54 ∷ [])
    × (parts_on 2 state ≡ part 42 43 44 ∷ [])
    × (parts_on 3 state ≡ [])
    × (parts_on 1 (state_of new_ledger (party_of 2 1 21 22 23 24 25 ∷ [])) ≡ [])
shown_parts_hold = (refl, refl, refl, refl)

-- 7 − 1 and 4 − 1; 1 − 2 and 1 − 0
pub distances_hold :
    WithinCents 3 (part 1 7 1) (part 1 4 1)
    × (WithinCents 2 (part 1 7 1) (part 1 4 1) → ⊥)
    × WithinCents 3 (part 1 4 1) (part 1 7 1)
    × (WithinCents 2 (part 1 4 1) (part 1 7 1) → ⊥)
    × WithinCents 2 (part 1 1 2) (part 1 1 0)
    × (WithinCents 1 (part 1 1 2) (part 1 1 0) → ⊥)
    × WithinCents 0 (part 1 5 3) (part 1 4 2)
distances_hold = (
  record { not_above = omega arith; not_below = omega arith },
  λ within. omega (arith, within.not_above),
  record { not_above = omega arith; not_below = omega arith },
  λ within. omega (arith, within.not_below),
  record { not_above = omega arith; not_below = omega arith },
  λ within. omega (arith, within.not_below),
  record { not_above = omega arith; not_below = omega arith },
)
