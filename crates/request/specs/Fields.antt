-- Document 01, 'Request': the fields one by one, each with the limits on its values and what it says. The three lists of factors have theirs in field_values.
use Rattle.std.specs.Prelude.{ℕ, ◌+◌, ◌*◌, List, [], ◌∷◌, ◌++◌, replicate, None, Some, Option, if◌then◌else◌, ◌==◌}
use Rattle.numbers.specs.BigEndian.{number_at}
use Rattle.tagged.specs.Find.{first_place, field_value}
use Rattle.tagged.specs.declared.find.Place.{Place}
use Rattle.field_values.specs.Limits.{tier_count, highest_class, special_pricing, highest_amount, highest_mode, highest_demand, highest_rate, highest_revenue, lowest_capacity, highest_capacity, highest_mark, highest_of_two_bytes}
use Rattle.request.specs.declared.fields.Amounts.{Amounts}
use Rattle.request.specs.declared.fields.Tiers.{Tiers}
use Rattle.request.specs.declared.fields.Revenues.{Revenues}
use Rattle.request.specs.declared.fields.Connection.{Connection}

-- 02, "person number": any value of its width
abbrev pub person_in : List ℕ → ℕ
person_in s = number_at (field_value 2 s) 0 4

-- 03, "0 residential, life 30; 1 non-residential, life 15"; document 02, E3: "Request field 03 gets the value 2: special pricing"
abbrev pub class_limits : List (List ℕ)
class_limits = (1 ∷ 0 ∷ highest_class ∷ []) ∷ []

abbrev pub class_in : List ℕ → ℕ
class_in s = number_at (field_value 3 s) 0 1

-- 04, "zone number", or 0D in its place: any value of its width. Document 02, E6: "a two-byte number up to 255 means the same zone as the one-byte number"
abbrev pub zone_by : Option Place → List ℕ → ℕ
zone_by None s = number_at (field_value 4 s) 0 1
zone_by (Some place) s = number_at (field_value 13 s) 0 2

abbrev pub zone_in : List ℕ → ℕ
zone_in s = zone_by (first_place 13 s) s

-- 05, "six 4-byte amounts, each at most 1,000,000,000: minimum scheme extension ME, customer enhancement extension CE, distributor enhancement DE,
-- transmission works TW, historical cost recovery HR, operating loading OL"
--
-- Document 02, E3: "Classes 0 and 1 must now have OL 0." "OL above 0 in class 0 or 1 is 3, at OL's first byte, in its turn among the values."
abbrev pub highest_loading : ℕ → ℕ
highest_loading class = if class == special_pricing then highest_amount else 0

abbrev pub amount_limits : ℕ → List (List ℕ)
amount_limits class = replicate 5 (4 ∷ 0 ∷ highest_amount ∷ []) ++ ((4 ∷ 0 ∷ highest_loading class ∷ []) ∷ [])

abbrev pub amounts_in : List ℕ → Amounts
amounts_in s =
    record {
      me = number_at (field_value 5 s) 0 4;
      ce = number_at (field_value 5 s) 4 4;
      de = number_at (field_value 5 s) 8 4;
      tw = number_at (field_value 5 s) 12 4;
      hr = number_at (field_value 5 s) 16 4;
      ol = number_at (field_value 5 s) 20 4;
    }

-- 06, "for each tier a mode (0 posted, 1 extension-like, 2 bespoke), demand (4), bespoke rate (4, limited as in 08 in every mode)"
abbrev pub tier_limits : List (List ℕ)
tier_limits = (1 ∷ 0 ∷ highest_mode ∷ []) ∷ (4 ∷ 0 ∷ highest_demand ∷ []) ∷ (4 ∷ 0 ∷ highest_rate ∷ []) ∷ []

abbrev pub five_tier_limits : List (List ℕ)
five_tier_limits = tier_limits ++ (tier_limits ++ (tier_limits ++ (tier_limits ++ tier_limits)))

-- five 4-byte numbers, each `apart` bytes after the last
abbrev pub five_from : List ℕ → ℕ → ℕ → List ℕ
five_from value from apart =
    number_at value from 4 ∷
    number_at value (from + apart) 4 ∷
    number_at value (from + 2 * apart) 4 ∷
    number_at value (from + 3 * apart) 4 ∷
    number_at value (from + 4 * apart) 4 ∷
    []

-- a tier is nine bytes: mode, demand, bespoke rate
abbrev pub modes_in : List ℕ → List ℕ
modes_in value = number_at value 0 1 ∷ number_at value 9 1 ∷ number_at value 18 1 ∷ number_at value 27 1 ∷ number_at value 36 1 ∷ []

abbrev pub tiers_in : List ℕ → Tiers
tiers_in s =
    record {
      modes = modes_in (field_value 6 s);
      demands = five_from (field_value 6 s) 1 9;
      bespoke_rates = five_from (field_value 6 s) 5 9;
    }

-- 07, "five added demands of the customer's enhancement. A demand is at most 1,000,000."
abbrev pub added_limits : List (List ℕ)
added_limits = replicate tier_count (4 ∷ 0 ∷ highest_demand ∷ [])

abbrev pub added_in : List ℕ → List ℕ
added_in s = five_from (field_value 7 s) 0 4

-- 08, "year-one distribution and transmission revenue, each at most 1,000,000,000"
abbrev pub revenue_limits : List (List ℕ)
revenue_limits = replicate 2 (4 ∷ 0 ∷ highest_revenue ∷ [])

abbrev pub revenues_in : List ℕ → Revenues
revenues_in s = record { distribution = number_at (field_value 8 s) 0 4; transmission = number_at (field_value 8 s) 4 4 }

-- 0C, "month (2), capacity (4), 1 to 1,000,000, scheme joined (2, 0 for none), mark (1)": 0 to 2. Month and scheme take any value of their width.
abbrev pub connection_limits : List (List ℕ)
connection_limits =
    (2 ∷ 0 ∷ highest_of_two_bytes ∷ []) ∷
    (4 ∷ lowest_capacity ∷ highest_capacity ∷ []) ∷
    (2 ∷ 0 ∷ highest_of_two_bytes ∷ []) ∷
    (1 ∷ 0 ∷ highest_mark ∷ []) ∷
    []

abbrev pub connection_in : List ℕ → Connection
connection_in s =
    record {
      month = number_at (field_value 12 s) 0 2;
      capacity = number_at (field_value 12 s) 2 4;
      scheme = number_at (field_value 12 s) 6 2;
      mark = number_at (field_value 12 s) 8 1;
    }
