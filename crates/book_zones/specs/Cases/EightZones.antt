-- As many zones as a book may have, in both forms: no two of the eight numbers, and no two of the forty rates, are the same.
use Rattle.std.specs.Prelude.{ℕ, ◌≡◌, refl, set, replicate, Err, Ok}
use mathlib.Core.List.{List, [], ◌∷◌, map, flat_map}
use Rattle.numbers.specs.BigEndian.{number, bytes_of}
use Rattle.tagged.specs.Find.{fields_from, fields_with, first_with}
use Rattle.tagged.specs.Encoded.{encoded_parts}
use Rattle.field_values.specs.Judged.{Judged}
use Rattle.book_zones.specs.Zones.{zone_numbers, zone_rates, judge_zones_from, judge_zones}
use Rattle.book_zones.specs.Cases.Zones.{zone, wide_zone, over}

-- each zone's number and rates
abbrev pub eight_narrow : List (ℕ × List ℕ)
eight_narrow =
    (3, 31001 ∷ 31002 ∷ 31003 ∷ 31004 ∷ 31005 ∷ []) ∷
    (5, 32001 ∷ 32002 ∷ 32003 ∷ 32004 ∷ 32005 ∷ []) ∷
    (9, 33001 ∷ 33002 ∷ 33003 ∷ 33004 ∷ 33005 ∷ []) ∷
    (17, 34001 ∷ 34002 ∷ 34003 ∷ 34004 ∷ 34005 ∷ []) ∷
    (33, 35001 ∷ 35002 ∷ 35003 ∷ 35004 ∷ 35005 ∷ []) ∷
    (65, 36001 ∷ 36002 ∷ 36003 ∷ 36004 ∷ 36005 ∷ []) ∷
    (129, 37001 ∷ 37002 ∷ 37003 ∷ 37004 ∷ 37005 ∷ []) ∷
    (255, 38001 ∷ 38002 ∷ 38003 ∷ 38004 ∷ 38005 ∷ []) ∷
    []

abbrev pub eight_wide : List (ℕ × List ℕ)
eight_wide =
    (4, 41001 ∷ 41002 ∷ 41003 ∷ 41004 ∷ 41005 ∷ []) ∷
    (255, 42001 ∷ 42002 ∷ 42003 ∷ 42004 ∷ 42005 ∷ []) ∷
    (256, 43001 ∷ 43002 ∷ 43003 ∷ 43004 ∷ 43005 ∷ []) ∷
    (260, 44001 ∷ 44002 ∷ 44003 ∷ 44004 ∷ 44005 ∷ []) ∷
    (1400, 45001 ∷ 45002 ∷ 45003 ∷ 45004 ∷ 45005 ∷ []) ∷
    (9999, 46001 ∷ 46002 ∷ 46003 ∷ 46004 ∷ 46005 ∷ []) ∷
    (40000, 47001 ∷ 47002 ∷ 47003 ∷ 47004 ∷ 47005 ∷ []) ∷
    (65535, 48001 ∷ 48002 ∷ 48003 ∷ 48004 ∷ 48005 ∷ []) ∷
    []

-- the fields of zones
abbrev pub narrow_fields : List (ℕ × List ℕ) → List (ℕ × List ℕ)
narrow_fields zones = map (λ z. (8, zone z.0 z.1)) zones

abbrev pub wide_fields : List (ℕ × List ℕ) → List (ℕ × List ℕ)
wide_fields zones = map (λ z. (9, wide_zone z.0 z.1)) zones

-- Behind a field 07 the zones' values stand at 9, 33, .., 177, or at 9, 34, .., 184.
abbrev behind : List (ℕ × List ℕ) → List ℕ
behind zones = encoded_parts ((7, replicate 3 0) ∷ zones)

-- with another fifth or eighth zone
abbrev fifth : List (ℕ × List ℕ) → ℕ → List ℕ → List (ℕ × List ℕ)
fifth zones n rates = set zones 4 (n, rates)

abbrev eighth : List (ℕ × List ℕ) → ℕ → List ℕ → List (ℕ × List ℕ)
eighth zones n rates = set zones 7 (n, rates)

abbrev free : List ℕ
free = replicate 5 0

abbrev eight_judged : List (List ℕ × Judged)
eight_judged =
    (behind (narrow_fields eight_narrow), Ok tt) ∷
    (behind (narrow_fields (eighth eight_narrow 130 free)), Ok tt) ∷
    (behind (narrow_fields (eighth eight_narrow 129 free)), Err 177) ∷
    (behind (narrow_fields (eighth eight_narrow 255 (over 0))), Err 178) ∷
    (behind (narrow_fields (eighth eight_narrow 255 (over 4))), Err 194) ∷
    (behind (narrow_fields (fifth (eighth eight_narrow 255 (over 0)) 33 (over 4))), Err 122) ∷
    (behind (narrow_fields (fifth (eighth eight_narrow 255 (over 0)) 17 free)), Err 105) ∷
    (behind (wide_fields eight_wide), Ok tt) ∷
    (behind (wide_fields (eighth eight_wide 40001 free)), Ok tt) ∷
    (behind (wide_fields (eighth eight_wide 40000 free)), Err 184) ∷
    (behind (wide_fields (eighth eight_wide 65535 (over 0))), Err 186) ∷
    (behind (wide_fields (eighth eight_wide 65535 (over 4))), Err 202) ∷
    (behind (wide_fields (fifth (eighth eight_wide 65535 (over 0)) 1400 (over 4))), Err 127) ∷
    (behind (wide_fields (fifth (eighth eight_wide 65535 (over 0)) 260 free)), Err 109) ∷
    []

pub record EightZonesHold : Type 0 where
  pub narrow_numbers : zone_numbers (behind (narrow_fields eight_narrow)) ≡ map (λ z. z.0) eight_narrow
  pub narrow_rates : zone_rates (behind (narrow_fields eight_narrow)) ≡ map (λ z. z.1) eight_narrow
  pub wide_numbers : zone_numbers (behind (wide_fields eight_wide)) ≡ map (λ z. z.0) eight_wide
  pub wide_rates : zone_rates (behind (wide_fields eight_wide)) ≡ map (λ z. z.1) eight_wide
  pub judged : map (λ t. judge_zones t.0) eight_judged ≡ map (λ t. t.1) eight_judged

pub eight_zones_hold : EightZonesHold
unfolding flat_map number bytes_of fields_from fields_with first_with judge_zones_from
eight_zones_hold = record { narrow_numbers = refl; narrow_rates = refl; wide_numbers = refl; wide_rates = refl; judged = refl }
