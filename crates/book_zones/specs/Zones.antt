-- Document 01, 'Rate book', 08: "zone number (1), each above the last; five 4-byte rates, cents per kVA, at most 10,000,000".
-- "The rates are held as a row of five tiers for each zone. The first zone, and in it the first tier, over the limit gives the place."
-- Document 02, E6: "A book may carry field 09 (22 bytes, two-byte zone number, else as 08) in place of every 08."
use Rattle.std.specs.Prelude.{ℕ, ◌+◌, ◌-◌, List, [], ◌∷◌, ◌++◌, map, take, replicate, Ok, None, Some, Option, nat_le, slice_index}
use Rattle.numbers.specs.BigEndian.{number_at}
use Rattle.tagged.specs.Find.{fields_of, fields_with, first_place}
use Rattle.tagged.specs.declared.find.Place.{Place}
use Rattle.field_values.specs.Limits.{most_zones, tier_count, highest_rate}
use Rattle.field_values.specs.Judged.{judge, first_failure, Judged}

-- the tag of the zones' fields: 09 where there is one, otherwise 08
abbrev pub tag_by : Option Place → ℕ
tag_by None = 8
tag_by (Some place) = 9

abbrev pub zone_tag : List ℕ → ℕ
zone_tag s = tag_by (first_place 9 s)

-- the bytes of a zone's number: 1 in a field 08, 2 in a field 09
abbrev pub number_width : List ℕ → ℕ
number_width s = zone_tag s - 7

-- the offsets of the zones' values
abbrev pub zone_starts : List ℕ → List ℕ
zone_starts s = map (λ f. f.start) (fields_with (zone_tag s) (fields_of s))

-- an array with a place for each zone that a book may have: the elements there are, then the one that stands for none
abbrev pub zone_array : {A : Type 0} → A → List A → List A
zone_array none elements = take most_zones (elements ++ replicate most_zones none)

abbrev pub zone_number : List ℕ → ℕ → ℕ
zone_number s at = number_at s at (number_width s)

abbrev pub zone_numbers : List ℕ → List ℕ
zone_numbers s = zone_array 0 (map (zone_number s) (zone_starts s))

-- LV mains, distribution substation, HV feeder, zone substation, sub-transmission: behind the number, in the zone's value that starts at the offset `at`
abbrev pub rates_from : List ℕ → ℕ → List ℕ
rates_from s rates =
    number_at s rates 4 ∷ number_at s (rates + 4) 4 ∷ number_at s (rates + 8) 4 ∷ number_at s (rates + 12) 4 ∷ number_at s (rates + 16) 4 ∷ []

abbrev pub rate_row : List ℕ → ℕ → List ℕ
rate_row s at = rates_from s (at + number_width s)

abbrev pub zone_rates : List ℕ → List (List ℕ)
zone_rates s = zone_array (replicate tier_count 0) (map (rate_row s) (zone_starts s))

-- the rates of one zone, which start at the offset `rates`
abbrev pub row_judgements : ℕ → List ℕ → List Judged
row_judgements rates row =
    judge (nat_le (slice_index row 0) highest_rate) rates ∷
    judge (nat_le (slice_index row 1) highest_rate) (rates + 4) ∷
    judge (nat_le (slice_index row 2) highest_rate) (rates + 8) ∷
    judge (nat_le (slice_index row 3) highest_rate) (rates + 12) ∷
    judge (nat_le (slice_index row 4) highest_rate) (rates + 16) ∷
    []

abbrev pub judge_row : ℕ → List ℕ → Judged
judge_row rates row = first_failure (row_judgements rates row)

-- the zones' values in byte order, where a zone's number must be at least `least`: one above the last
unfoldable pub judge_zones_from : ℕ → List ℕ → List ℕ → Judged
judge_zones_from least s [] = Ok tt
judge_zones_from least s (at ∷ starts) =
    first_failure
    (judge (nat_le least (zone_number s at)) at ∷
    judge_row (at + number_width s) (rate_row s at) ∷
    judge_zones_from (zone_number s at + 1) s starts ∷
    [])

abbrev pub judge_zones : List ℕ → Judged
judge_zones s = judge_zones_from 0 s (zone_starts s)
