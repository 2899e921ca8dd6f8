-- What holds of zones whose values pass: each number is above the last, and every rate is within its limit.
use Rattle.std.specs.Prelude.{ℕ, zero, suc, ◌+◌, ◌<◌, ◌≤◌, ◌≡◌, List, [], ◌∷◌, map, length, get_or, replicate, ltb, leb, Ok}
use Rattle.std.proofs.Common.{zero-le, ap, ⊎_elim, add-one, arith}
use mathlib.Mathlib.Data.Bool.Basic.{dichotomy}
use borrow.Author.Tests.{ltb-true, ltb-false, leb-true}
use Rattle.field_values.specs.Limits.{tier_count, highest_rate}
use Rattle.field_values.specs.Judged.{judge}
use Rattle.field_values.proofs.Theorems.Judged.{judge_passes, first_failure_passes}
use Rattle.book_zones.specs.Zones.{number_width, zone_starts, zone_number, zone_numbers, rate_row, zone_rates, row_judgements, judge_row, judge_zones_from, judge_zones}
use Rattle.book_zones.proofs.Theorems.ZoneFields.{ZonesStand}
use Rattle.book_zones.proofs.Theorems.Zones.{length_zone_array, zone_get_or, zone_past}
use Rattle.book_zones.specs.ZoneLimits.{RatesWithin}

row_within : (s : List ℕ) (at : ℕ) → judge_row (at + number_width s) (rate_row s at) ≡ Ok tt → (tier : ℕ) → get_or (rate_row s at) tier 0 ≤ highest_rate
row_within s at e tier = by tier (first_failure_passes (row_judgements (at + number_width s) (rate_row s at)) e tier)
  where
    by : (tier : ℕ) → get_or (row_judgements (at + number_width s) (rate_row s at)) tier (Ok tt) ≡ Ok tt → get_or (rate_row s at) tier 0 ≤ highest_rate
    by zero p = leb-true _ _ (judge_passes _ _ p)
    by (suc zero) p = leb-true _ _ (judge_passes _ _ p)
    by (suc (suc zero)) p = leb-true _ _ (judge_passes _ _ p)
    by (suc (suc (suc zero))) p = leb-true _ _ (judge_passes _ _ p)
    by (suc (suc (suc (suc zero)))) p = leb-true _ _ (judge_passes _ _ p)
    by (suc (suc (suc (suc (suc tier))))) p = zero-le

-- of the zones from one on
record ZonesPass (s : List ℕ) (least at : ℕ) (starts : List ℕ) : Type 0 where
  above : least ≤ zone_number s at
  row : judge_row (at + number_width s) (rate_row s at) ≡ Ok tt
  later : judge_zones_from (zone_number s at + 1) s starts ≡ Ok tt

module _ (s : List ℕ) where
  zones_pass : (least at : ℕ) (starts : List ℕ) → judge_zones_from least s (at ∷ starts) ≡ Ok tt → ZonesPass s least at starts
  unfolding judge_zones_from
  zones_pass least at starts e =
      let p = first_failure_passes (judge (leb least (zone_number s at)) at ∷ judge_row (at + number_width s) (rate_row s at) ∷ judge_zones_from (zone_number s at + 1) s starts ∷ []) e in
      record { above = leb-true _ _ (judge_passes (leb least (zone_number s at)) at (p 0)); row = p 1; later = p 2 }

  rows_pass : (least : ℕ) (starts : List ℕ) → judge_zones_from least s starts ≡ Ok tt → (i : ℕ) → i < length starts →
      judge_row (get_or starts i 0 + number_width s) (rate_row s (get_or starts i 0)) ≡ Ok tt
  rows_pass least [] e i h = absurd (omega arith)
  rows_pass least (at ∷ starts) e zero h = (zones_pass least at starts e).row
  rows_pass least (at ∷ starts) e (suc i) h = rows_pass (zone_number s at + 1) starts (zones_pass least at starts e).later i (omega arith)

  numbers_rise : (least : ℕ) (starts : List ℕ) → judge_zones_from least s starts ≡ Ok tt → (i : ℕ) → suc i < length starts →
      zone_number s (get_or starts i 0) < zone_number s (get_or starts (suc i) 0)
  numbers_rise least [] e i h = absurd (omega arith)
  numbers_rise least (at ∷ []) e i h = absurd (omega arith)
  numbers_rise least (at ∷ at' ∷ starts) e zero h =
      omega (arith, (zones_pass (zone_number s at + 1) at' starts (zones_pass least at (at' ∷ starts) e).later).above)
  numbers_rise least (at ∷ at' ∷ starts) e (suc i) h =
      numbers_rise (zone_number s at + 1) (at' ∷ starts) (zones_pass least at (at' ∷ starts) e).later i (omega arith)

  module _ (stand : ZonesStand s) (passes : judge_zones s ≡ Ok tt) where
    pub zone_numbers_rise : (i : ℕ) → i + 1 < length (zone_starts s) → get_or (zone_numbers s) i 0 < get_or (zone_numbers s) (i + 1) 0
    zone_numbers_rise i h =
        rw (add-one i, zone_get_or 0 (zone_number s) s stand i 0 (omega arith), zone_get_or 0 (zone_number s) s stand (suc i) 0 (omega arith))
        (numbers_rise 0 (zone_starts s) passes i (omega arith))

    pub zone_rates_within : RatesWithin (zone_rates s) (length (zone_starts s))
    zone_rates_within =
        record {
          rows = length_zone_array (replicate tier_count 0) (map (rate_row s) (zone_starts s));
          tiers = λ i h.
              ⊎_elim
              (λ past. ap length (zone_past (replicate tier_count 0) (rate_row s) s i [] (ltb-false i _ past) h))
              (λ in_zone. ap length (zone_get_or (replicate tier_count 0) (rate_row s) s stand i [] (ltb-true i _ in_zone)))
              (dichotomy (ltb i (length (zone_starts s))));
          each = λ i tier h.
              rw (zone_get_or (replicate tier_count 0) (rate_row s) s stand i [] h)
              (row_within s (get_or (zone_starts s) i 0) (rows_pass 0 (zone_starts s) passes i h) tier);
        }
