-- Small zones at their limits: equal and falling numbers, rates at the limit and one past it, and the place of the first that fails.
use Rattle.std.specs.Prelude.{ℕ, ◌≡◌, refl, set, replicate, Err, Ok}
use mathlib.Core.List.{List, [], ◌∷◌, ◌++◌, map, flat_map}
use Rattle.numbers.specs.BigEndian.{number, bytes_of}
use Rattle.tagged.specs.Find.{fields_from, fields_with, first_with}
use Rattle.tagged.specs.Encoded.{encoded_parts}
use Rattle.field_values.specs.Judged.{Judged}
use Rattle.book_zones.specs.Zones.{zone_numbers, zone_rates, judge_zones_from, judge_zones}

-- For a table of zones: a field 07, and three zones. Their values stand at 9, 33 and 57.
abbrev pub zone : ℕ → List ℕ → List ℕ
zone n rates = n ∷ flat_map (bytes_of 4) rates

abbrev three_zones : List ℕ → List ℕ → List ℕ → List ℕ
three_zones one another third = encoded_parts ((7, replicate 3 0) ∷ (8, one) ∷ (8, another) ∷ (8, third) ∷ [])

abbrev free : List ℕ
free = replicate 5 0

-- rates at the limit, and with one tier over it
abbrev full : List ℕ
full = replicate 5 10000000

abbrev pub over : ℕ → List ℕ
over tier = set full tier 10000001

abbrev zones_judged : List (List ℕ × Judged)
zones_judged =
    -- zone numbers: the lowest and the highest, equal ones and falling ones
    (three_zones (zone 0 free) (zone 5 free) (zone 255 free), Ok tt) ∷
    (three_zones (zone 3 free) (zone 3 free) (zone 9 free), Err 33) ∷
    (three_zones (zone 6 free) (zone 5 free) (zone 9 free), Err 33) ∷
    (three_zones (zone 3 free) (zone 5 free) (zone 5 free), Err 57) ∷
    (three_zones (zone 3 free) (zone 5 free) (zone 4 free), Err 57) ∷
    -- each of the five rates, in the first zone and in the third
    (three_zones (zone 3 full) (zone 5 full) (zone 9 full), Ok tt) ∷
    (three_zones (zone 3 (over 0)) (zone 5 free) (zone 9 free), Err 10) ∷
    (three_zones (zone 3 (over 1)) (zone 5 free) (zone 9 free), Err 14) ∷
    (three_zones (zone 3 (over 2)) (zone 5 free) (zone 9 free), Err 18) ∷
    (three_zones (zone 3 (over 3)) (zone 5 free) (zone 9 free), Err 22) ∷
    (three_zones (zone 3 (over 4)) (zone 5 free) (zone 9 free), Err 26) ∷
    (three_zones (zone 3 free) (zone 5 free) (zone 9 (over 0)), Err 58) ∷
    (three_zones (zone 3 free) (zone 5 free) (zone 9 (over 1)), Err 62) ∷
    (three_zones (zone 3 free) (zone 5 free) (zone 9 (over 2)), Err 66) ∷
    (three_zones (zone 3 free) (zone 5 free) (zone 9 (over 3)), Err 70) ∷
    (three_zones (zone 3 free) (zone 5 free) (zone 9 (over 4)), Err 74) ∷
    -- the first tier over the limit, the first zone with one, and numbers and rates in byte order
    (three_zones (zone 3 (0 ∷ 10000001 ∷ 0 ∷ 10000001 ∷ 0 ∷ [])) (zone 5 free) (zone 9 free), Err 14) ∷
    (three_zones (zone 3 (over 4)) (zone 5 (over 0)) (zone 9 free), Err 26) ∷
    (three_zones (zone 3 (over 4)) (zone 3 free) (zone 9 free), Err 26) ∷
    (three_zones (zone 3 free) (zone 3 (over 0)) (zone 9 free), Err 33) ∷
    (three_zones (zone 3 free) (zone 3 free) (zone 9 (over 0)), Err 33) ∷
    (three_zones (zone 3 free) (zone 5 (over 4)) (zone 5 free), Err 50) ∷
    []

-- the same with fields 09, whose values stand at 9, 34 and 59
abbrev pub wide_zone : ℕ → List ℕ → List ℕ
wide_zone n rates = bytes_of 2 n ++ flat_map (bytes_of 4) rates

abbrev three_wide : List ℕ → List ℕ → List ℕ → List ℕ
three_wide one another third = encoded_parts ((7, replicate 3 0) ∷ (9, one) ∷ (9, another) ∷ (9, third) ∷ [])

abbrev wide_judged : List (List ℕ × Judged)
wide_judged =
    -- "Numbers rise as 16-bit numbers": the lowest and the highest, about 255, and those that differ in their high byte alone
    (three_wide (wide_zone 0 free) (wide_zone 255 free) (wide_zone 65535 free), Ok tt) ∷
    (three_wide (wide_zone 255 free) (wide_zone 256 free) (wide_zone 257 free), Ok tt) ∷
    (three_wide (wide_zone 7 free) (wide_zone 263 free) (wide_zone 519 free), Ok tt) ∷
    (three_wide (wide_zone 256 free) (wide_zone 255 free) (wide_zone 257 free), Err 34) ∷
    (three_wide (wide_zone 1400 free) (wide_zone 1400 free) (wide_zone 65535 free), Err 34) ∷
    (three_wide (wide_zone 1 free) (wide_zone 1400 free) (wide_zone 1400 free), Err 59) ∷
    (three_wide (wide_zone 1 free) (wide_zone 1400 free) (wide_zone 1399 free), Err 59) ∷
    -- each of the five rates, in the first zone and in the third
    (three_wide (wide_zone 3 full) (wide_zone 5 full) (wide_zone 9 full), Ok tt) ∷
    (three_wide (wide_zone 3 (over 0)) (wide_zone 5 free) (wide_zone 9 free), Err 11) ∷
    (three_wide (wide_zone 3 (over 1)) (wide_zone 5 free) (wide_zone 9 free), Err 15) ∷
    (three_wide (wide_zone 3 (over 2)) (wide_zone 5 free) (wide_zone 9 free), Err 19) ∷
    (three_wide (wide_zone 3 (over 3)) (wide_zone 5 free) (wide_zone 9 free), Err 23) ∷
    (three_wide (wide_zone 3 (over 4)) (wide_zone 5 free) (wide_zone 9 free), Err 27) ∷
    (three_wide (wide_zone 3 free) (wide_zone 5 free) (wide_zone 9 (over 0)), Err 61) ∷
    (three_wide (wide_zone 3 free) (wide_zone 5 free) (wide_zone 9 (over 4)), Err 77) ∷
    -- numbers and rates in byte order
    (three_wide (wide_zone 3 (over 4)) (wide_zone 3 free) (wide_zone 9 free), Err 27) ∷
    (three_wide (wide_zone 3 free) (wide_zone 3 (over 0)) (wide_zone 9 free), Err 34) ∷
    (three_wide (wide_zone 3 free) (wide_zone 5 (over 4)) (wide_zone 5 free), Err 52) ∷
    []

abbrev other_wide : List ℕ
other_wide =
    three_wide
    (wide_zone 263 (31001 ∷ 31002 ∷ 31003 ∷ 31004 ∷ 31005 ∷ []))
    (wide_zone 1400 (32001 ∷ 32002 ∷ 32003 ∷ 32004 ∷ 32005 ∷ []))
    (wide_zone 65535 (33001 ∷ 33002 ∷ 33003 ∷ 33004 ∷ 33005 ∷ []))

pub record WideCasesHold : Type 0 where
  pub judged : map (λ t. judge_zones t.0) wide_judged ≡ map (λ t. t.1) wide_judged
  pub numbers : zone_numbers other_wide ≡ 263 ∷ 1400 ∷ 65535 ∷ replicate 5 0
  pub rates :
      zone_rates other_wide
      ≡ (31001 ∷ 31002 ∷ 31003 ∷ 31004 ∷ 31005 ∷ []) ∷
      (32001 ∷ 32002 ∷ 32003 ∷ 32004 ∷ 32005 ∷ []) ∷
      (33001 ∷ 33002 ∷ 33003 ∷ 33004 ∷ 33005 ∷ []) ∷
      replicate 5 free

pub wide_cases_hold : WideCasesHold
unfolding flat_map number bytes_of fields_from fields_with first_with judge_zones_from
wide_cases_hold = record { judged = refl; numbers = refl; rates = refl }

-- no two numbers and no two rates are the same
abbrev other_zones : List ℕ
other_zones =
    three_zones
    (zone 3 (31001 ∷ 31002 ∷ 31003 ∷ 31004 ∷ 31005 ∷ []))
    (zone 5 (32001 ∷ 32002 ∷ 32003 ∷ 32004 ∷ 32005 ∷ []))
    (zone 9 (33001 ∷ 33002 ∷ 33003 ∷ 33004 ∷ 33005 ∷ []))

pub record ZonesCasesHold : Type 0 where
  pub judged : map (λ t. judge_zones t.0) zones_judged ≡ map (λ t. t.1) zones_judged
  pub numbers : zone_numbers other_zones ≡ 3 ∷ 5 ∷ 9 ∷ replicate 5 0
  pub rates :
      zone_rates other_zones
      ≡ (31001 ∷ 31002 ∷ 31003 ∷ 31004 ∷ 31005 ∷ []) ∷
      (32001 ∷ 32002 ∷ 32003 ∷ 32004 ∷ 32005 ∷ []) ∷
      (33001 ∷ 33002 ∷ 33003 ∷ 33004 ∷ 33005 ∷ []) ∷
      replicate 5 free

pub zones_cases_hold : ZonesCasesHold
unfolding flat_map number bytes_of fields_from fields_with first_with judge_zones_from
zones_cases_hold = record { judged = refl; numbers = refl; rates = refl }
