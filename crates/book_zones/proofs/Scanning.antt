-- The two scans over the zones, one zone and one tier on.
use Rattle.std.specs.Prelude.{Ok}
use Prim.Native.Nat.{ℕ, zero, suc, ◌+◌, ◌*◌, ◌<◌, ◌≤◌}
use mathlib.Core.Path.{◌≡◌, refl}
use mathlib.Core.List.{List, []}
use native.Mathlib.Nat.{add-zero}
use native.Mathlib.Omega.{arith}
use lib.ListN.{length, get_or, drop}
use Rattle.std.proofs.lemmas.List.{drop_more, at_drop_all}
use lib.Dec.{leb}
use Rattle.field_values.specs.Limits.{tier_count, highest_rate}
use Rattle.field_values.specs.Judged.{judge, in_order, first_failure, Judged}
use Rattle.book_zones.specs.Zones.{row_judgements, judge_row}
use Rattle.book_zones.specs.ZoneScans.{judge_rows, judge_rise}

module _ (apart first i : ℕ) where
  next : first + apart * i + apart ≡ first + apart * (i + 1)
  next = omega arith

  module _ (numbers : List ℕ) (least : ℕ) where
    pub rise_on : i < length numbers → judge_rise apart least (first + apart * i) (drop i numbers) ≡
        in_order (judge (leb least (get_or numbers i 0)) (first + apart * i))
        (judge_rise apart (get_or numbers i 0 + 1) (first + apart * (i + 1)) (drop (i + 1) numbers))
    unfolding judge_rise
    rise_on h = rw (drop_more numbers i 0 h, next)

    pub rise_end : length numbers ≤ i → judge_rise apart least (first + apart * i) (drop i numbers) ≡ Ok tt
    unfolding judge_rise
    rise_end h = at_drop_all (judge_rise apart least (first + apart * i)) numbers i h

  module _ (rates : List (List ℕ)) where
    pub rows_on : i < length rates → judge_rows apart (first + apart * i) (drop i rates) ≡
        in_order (judge_row (first + apart * i) (get_or rates i [])) (judge_rows apart (first + apart * (i + 1)) (drop (i + 1) rates))
    unfolding judge_rows
    rows_on h = rw (drop_more rates i [] h, next)

    pub rows_end : length rates ≤ i → judge_rows apart (first + apart * i) (drop i rates) ≡ Ok tt
    unfolding judge_rows
    rows_end h = at_drop_all (judge_rows apart (first + apart * i)) rates i h

-- the rates of a zone from a tier on
abbrev pub judge_tiers : ℕ → List ℕ → ℕ → Judged
judge_tiers at row tier = first_failure (drop tier (row_judgements at row))

pub tier_on : (at : ℕ) (row : List ℕ) (tier : ℕ) → tier < tier_count → judge_tiers at row tier ≡
    in_order (judge (leb (get_or row tier 0) highest_rate) (at + 4 * tier)) (judge_tiers at row (tier + 1))
tier_on at row zero h = rw add-zero
tier_on at row (suc zero) h = refl
tier_on at row (suc (suc zero)) h = refl
tier_on at row (suc (suc (suc zero))) h = refl
tier_on at row (suc (suc (suc (suc zero)))) h = refl
tier_on at row (suc (suc (suc (suc (suc tier))))) h = absurd (omega arith)
