-- Document 01, 'Rate book' and 'Request': how high and how many the values may be.
use Rattle.std.specs.Prelude.{ℕ}

-- 08, "1 to 8 times"
abbrev pub most_zones : ℕ
most_zones = 8

-- "for LV mains, distribution substation, HV feeder, zone substation, sub-transmission"
abbrev pub tier_count : ℕ
tier_count = 5

-- "1 to 8 of 2 bytes, each 0 to 40,000"
abbrev pub most_factors : ℕ
most_factors = 8

abbrev pub highest_factor : ℕ
highest_factor = 40000

-- "discount rate b, hundredths of a percent, 0 to 10,000"
abbrev pub highest_discount_rate : ℕ
highest_discount_rate = 10000

-- "credit share (2), 0 to 10,000"
abbrev pub highest_share : ℕ
highest_share = 10000

-- "threshold (4), at most 5,000,000"
abbrev pub highest_threshold : ℕ
highest_threshold = 5000000

-- "minimum (4), at most 1,000,000,000"
abbrev pub highest_minimum : ℕ
highest_minimum = 1000000000

-- "term in months (2), at least 84"
abbrev pub lowest_term : ℕ
lowest_term = 84

-- "five 4-byte rates, cents per kVA, at most 10,000,000"; "bespoke rate (4, limited as in 08 in every mode)"
abbrev pub highest_rate : ℕ
highest_rate = 10000000

-- "six 4-byte amounts, each at most 1,000,000,000"
abbrev pub highest_amount : ℕ
highest_amount = 1000000000

-- "year-one distribution and transmission revenue, each at most 1,000,000,000"
abbrev pub highest_revenue : ℕ
highest_revenue = 1000000000

-- "A demand is at most 1,000,000."
abbrev pub highest_demand : ℕ
highest_demand = 1000000

-- "capacity (4), 1 to 1,000,000"
abbrev pub lowest_capacity : ℕ
lowest_capacity = 1

abbrev pub highest_capacity : ℕ
highest_capacity = 1000000

-- "0 residential, life 30; 1 non-residential, life 15"; document 02, E3: "Request field 03 gets the value 2: special pricing"
abbrev pub highest_class : ℕ
highest_class = 2

abbrev pub special_pricing : ℕ
special_pricing = 2

-- "a mode (0 posted, 1 extension-like, 2 bespoke)"
abbrev pub highest_mode : ℕ
highest_mode = 2

-- "mark (1): 0 none, 1 opted out in writing, 2 real estate"
abbrev pub highest_mark : ℕ
highest_mark = 2

-- month and scheme joined take any value of their two bytes
abbrev pub highest_of_two_bytes : ℕ
highest_of_two_bytes = 65535
