-- Document 01, 'Request', at its limits: a table of requests, most with one value at a limit or one past it, and how each is answered.
use Rattle.std.specs.Prelude.{ℕ, ◌+◌, ◌-◌, ◌≡◌, refl, get_or, set, replicate, Err, Ok, Some, option_map}
use Rattle.std.specs.Result.{result_ok}
use mathlib.Core.List.{List, [], ◌∷◌, ◌++◌, map, flat_map}
use Rattle.numbers.specs.BigEndian.{number, bytes_of}
use Rattle.numbers.specs.Check.{check_from}
use Rattle.field_walk.specs.Walk.{due_from, all_had, front_of, walk_from}
use Rattle.tagged.specs.Find.{fields_from, first_with}
use Rattle.tagged.specs.File.{refusal, answer_of, FileAnswer}
use Rattle.tagged.specs.Cases.AlteredFields.{without}
use Rattle.tagged.specs.Encoded.{closed}
use Rattle.field_values.specs.Judged.{judge_numbers, same_bytes}
use Rattle.field_values.specs.declared.factors.Factors.{Factors}
use Rattle.request.specs.Request.{request_of}
use Rattle.request.specs.WithRevenues.{with_revenues}
use Rattle.request.specs.declared.values.Request.{Request}

-- the numbers of a request, field by field from 01 on: how many bytes each takes
abbrev pub request_widths : List (List ℕ)
request_widths =
    replicate 4 1 ∷
    (4 ∷ []) ∷
    (1 ∷ []) ∷
    (1 ∷ []) ∷
    replicate 6 4 ∷
    (1 ∷ 4 ∷ 4 ∷ 1 ∷ 4 ∷ 4 ∷ 1 ∷ 4 ∷ 4 ∷ 1 ∷ 4 ∷ 4 ∷ 1 ∷ 4 ∷ 4 ∷ []) ∷
    replicate 5 4 ∷
    replicate 2 4 ∷
    replicate 8 2 ∷
    replicate 8 2 ∷
    replicate 8 2 ∷
    (2 ∷ 4 ∷ 2 ∷ 1 ∷ []) ∷
    []

abbrev pub spelt : List ℕ → List ℕ → List ℕ
spelt [] ns = []
spelt (width ∷ widths) [] = []
spelt (width ∷ widths) (n ∷ ns) = bytes_of width n ++ spelt widths ns

abbrev pub parts_from : ℕ → List (List ℕ) → List (List ℕ) → List (ℕ × List ℕ)
parts_from tag [] values = []
parts_from tag (widths ∷ others) [] = []
parts_from tag (widths ∷ others) (ns ∷ values) = (tag, spelt widths ns) ∷ parts_from (tag + 1) others values

-- the file of a request with these numbers
abbrev pub request_file : List (List ℕ) → List ℕ
request_file values = closed (parts_from 1 request_widths values)

abbrev pub sample : List (List ℕ)
sample =
    (67 ∷ 79 ∷ 78 ∷ 78 ∷ []) ∷
    (70001 ∷ []) ∷
    (2 ∷ []) ∷
    (3 ∷ []) ∷
    (1001 ∷ 1002 ∷ 1003 ∷ 1004 ∷ 1005 ∷ 1006 ∷ []) ∷
    (0 ∷ 2001 ∷ 3001 ∷ 1 ∷ 2002 ∷ 3002 ∷ 2 ∷ 2003 ∷ 3003 ∷ 1 ∷ 2004 ∷ 3004 ∷ 2 ∷ 2005 ∷ 3005 ∷ []) ∷
    (4001 ∷ 4002 ∷ 4003 ∷ 4004 ∷ 4005 ∷ []) ∷
    (5001 ∷ 5002 ∷ []) ∷
    (6001 ∷ []) ∷
    (7001 ∷ 7002 ∷ []) ∷
    (8001 ∷ 8002 ∷ 8003 ∷ []) ∷
    (24315 ∷ 9001 ∷ 11 ∷ 0 ∷ []) ∷
    []

-- with another number k in the field of this tag
abbrev pub put : ℕ → ℕ → ℕ → List (List ℕ) → List (List ℕ)
put tag k n values = set values (tag - 1) (set (get_or values (tag - 1) []) k n)

-- with eight factors in each list
abbrev pub eight_factors : List (List ℕ)
eight_factors = set (set (set sample 8 (replicate 8 6001)) 9 (replicate 8 7001)) 10 (replicate 8 8001)

abbrev refused : ℕ → FileAnswer
refused place = Err (refusal 3 2 place)

-- a number that passes at its highest value, and is refused one past it
abbrev at_most : List (List ℕ) → ℕ → ℕ → ℕ → ℕ → List (List (List ℕ) × FileAnswer)
at_most values tag k highest place = (put tag k highest values, Ok tt) ∷ (put tag k (highest + 1) values, refused place) ∷ []

-- a number that passes at 0 and at the highest of its width
abbrev any_value : ℕ → ℕ → ℕ → List (List (List ℕ) × FileAnswer)
any_value tag k highest = (put tag k 0 sample, Ok tt) ∷ (put tag k highest sample, Ok tt) ∷ []

abbrev pub boundary_cases : List (List (List ℕ) × FileAnswer)
boundary_cases =
    (sample, Ok tt) ∷
    (eight_factors, Ok tt) ∷
    -- each letter altered
    (put 1 0 66 sample, refused 3) ∷
    (put 1 1 111 sample, refused 3) ∷
    (put 1 2 0 sample, refused 3) ∷
    (put 1 3 79 sample, refused 3) ∷
    -- person and zone
    any_value 2 0 4294967295 ++
    any_value 4 0 255 ++
    -- class
    at_most sample 3 0 2 17 ++
    -- the six amounts
    at_most sample 5 0 1000000000 25 ++
    at_most sample 5 1 1000000000 29 ++
    at_most sample 5 2 1000000000 33 ++
    at_most sample 5 3 1000000000 37 ++
    at_most sample 5 4 1000000000 41 ++
    at_most sample 5 5 1000000000 45 ++
    -- the first five in the other classes
    at_most (put 3 0 0 (put 5 5 0 sample)) 5 0 1000000000 25 ++
    at_most (put 3 0 0 (put 5 5 0 sample)) 5 1 1000000000 29 ++
    at_most (put 3 0 0 (put 5 5 0 sample)) 5 2 1000000000 33 ++
    at_most (put 3 0 0 (put 5 5 0 sample)) 5 3 1000000000 37 ++
    at_most (put 3 0 0 (put 5 5 0 sample)) 5 4 1000000000 41 ++
    at_most (put 3 0 1 (put 5 5 0 sample)) 5 0 1000000000 25 ++
    at_most (put 3 0 1 (put 5 5 0 sample)) 5 1 1000000000 29 ++
    at_most (put 3 0 1 (put 5 5 0 sample)) 5 2 1000000000 33 ++
    at_most (put 3 0 1 (put 5 5 0 sample)) 5 3 1000000000 37 ++
    at_most (put 3 0 1 (put 5 5 0 sample)) 5 4 1000000000 41 ++
    -- OL in the classes without it, also past its limit, and in the class with it
    at_most (put 3 0 0 sample) 5 5 0 45 ++
    at_most (put 3 0 1 sample) 5 5 0 45 ++
    (put 3 0 0 (put 5 5 1000000001 sample), refused 45) ∷
    (put 3 0 1 (put 5 5 1000000001 sample), refused 45) ∷
    (put 5 5 0 sample, Ok tt) ∷
    -- the first tier: mode, demand, and bespoke rate in every mode
    at_most sample 6 0 2 52 ++
    at_most sample 6 1 1000000 53 ++
    at_most (put 6 0 0 sample) 6 2 10000000 57 ++
    at_most (put 6 0 1 sample) 6 2 10000000 57 ++
    at_most (put 6 0 2 sample) 6 2 10000000 57 ++
    -- the last tier
    at_most sample 6 12 2 88 ++
    at_most sample 6 13 1000000 89 ++
    at_most (put 6 12 0 sample) 6 14 10000000 93 ++
    at_most (put 6 12 1 sample) 6 14 10000000 93 ++
    at_most (put 6 12 2 sample) 6 14 10000000 93 ++
    -- the five added demands
    at_most sample 7 0 1000000 100 ++
    at_most sample 7 1 1000000 104 ++
    at_most sample 7 2 1000000 108 ++
    at_most sample 7 3 1000000 112 ++
    at_most sample 7 4 1000000 116 ++
    -- the two revenues
    at_most sample 8 0 1000000000 123 ++
    at_most sample 8 1 1000000000 127 ++
    -- a first factor in each of the lists, and an eighth of eight
    at_most sample 9 0 40000 134 ++
    at_most sample 10 0 40000 139 ++
    at_most sample 11 0 40000 146 ++
    at_most eight_factors 9 7 40000 148 ++
    at_most eight_factors 10 7 40000 167 ++
    at_most eight_factors 11 7 40000 186 ++
    -- month, capacity, scheme joined and mark
    any_value 12 0 65535 ++
    (put 12 1 0 sample, refused 157) ∷
    (put 12 1 1 sample, Ok tt) ∷
    at_most sample 12 1 1000000 157 ++
    any_value 12 2 65535 ++
    at_most sample 12 3 2 163 ++
    -- "3 in byte order": two to four values past their limits
    (put 3 0 3 (put 1 3 79 sample), refused 3) ∷
    (put 12 3 3 (put 3 0 3 sample), refused 17) ∷
    (put 3 0 3 (put 5 5 1 sample), refused 17) ∷
    (put 3 0 1 (put 5 4 1000000001 (put 5 5 1 sample)), refused 41) ∷
    (put 3 0 1 (put 6 0 3 (put 5 5 1 sample)), refused 45) ∷
    (put 5 2 1000000001 (put 5 1 1000000001 sample), refused 29) ∷
    (put 6 0 3 (put 5 5 1000000001 sample), refused 45) ∷
    (put 6 2 10000001 (put 6 1 1000001 (put 6 3 3 sample)), refused 53) ∷
    (put 7 0 1000001 (put 6 14 10000001 (put 8 0 1000000001 sample)), refused 93) ∷
    (put 9 0 40001 (put 8 1 1000000001 (put 7 4 1000001 sample)), refused 116) ∷
    (put 9 0 40001 (put 8 1 1000000001 sample), refused 127) ∷
    (put 12 3 3 (put 12 1 0 (put 11 0 40001 (put 8 0 1000000001 sample))), refused 123) ∷
    (put 12 1 0 (put 11 2 40001 (put 10 1 40001 (put 9 0 40001 sample))), refused 134) ∷
    (put 12 3 255 (put 12 1 1000001 (put 11 2 40001 (put 10 1 40001 sample))), refused 141) ∷
    (put 12 3 3 (put 12 1 0 (put 11 2 40001 sample)), refused 150) ∷
    (put 12 3 3 (put 12 1 0 sample), refused 157) ∷
    []

pub boundary_answers : map (λ row. answer_of (request_of 2 (request_file row.0))) boundary_cases ≡ map (λ row. row.1) boundary_cases
unfolding number bytes_of flat_map check_from due_from all_had front_of walk_from fields_from first_with judge_numbers same_bytes request_of
boundary_answers = refl

-- every value of the sample, read where document 01 has it
abbrev sample_request : Request
sample_request =
    record {
      person = 70001;
      class = 2;
      zone = 3;
      me = 1001;
      ce = 1002;
      de = 1003;
      tw = 1004;
      hr = 1005;
      ol = 1006;
      modes = 0 ∷ 1 ∷ 2 ∷ 1 ∷ 2 ∷ [];
      demands = 2001 ∷ 2002 ∷ 2003 ∷ 2004 ∷ 2005 ∷ [];
      bespoke_rates = 3001 ∷ 3002 ∷ 3003 ∷ 3004 ∷ 3005 ∷ [];
      added_demands = 4001 ∷ 4002 ∷ 4003 ∷ 4004 ∷ 4005 ∷ [];
      distribution_revenue = 5001;
      transmission_revenue = 5002;
      part_year = record { count = 1; values = 6001 ∷ replicate 7 0 };
      distribution_tariff = record { count = 2; values = 7001 ∷ 7002 ∷ replicate 6 0 };
      transmission_tariff = record { count = 3; values = 8001 ∷ 8002 ∷ 8003 ∷ replicate 5 0 };
      month = 24315;
      capacity = 9001;
      scheme = 11;
      mark = 0;
    }

pub sample_read : request_of 2 (request_file sample) ≡ Ok sample_request
unfolding number bytes_of flat_map check_from due_from all_had front_of walk_from fields_from first_with judge_numbers same_bytes request_of
sample_read = refl

-- with other revenues it is the same otherwise
pub other_revenues : with_revenues 5003 5004 sample_request ≡ record sample_request { distribution_revenue = 5003; transmission_revenue = 5004 }
other_revenues = refl

-- every number at its lowest
abbrev lowest : List (List ℕ)
lowest =
    (67 ∷ 79 ∷ 78 ∷ 78 ∷ []) ∷
    (0 ∷ []) ∷
    (0 ∷ []) ∷
    (0 ∷ []) ∷
    replicate 6 0 ∷
    replicate 15 0 ∷
    replicate 5 0 ∷
    replicate 2 0 ∷
    (0 ∷ []) ∷
    (0 ∷ []) ∷
    (0 ∷ []) ∷
    (0 ∷ 1 ∷ 0 ∷ 0 ∷ []) ∷
    []

pub lowest_read :
    request_of 2 (request_file lowest)
    ≡ Ok
    (record {
      person = 0;
      class = 0;
      zone = 0;
      me = 0;
      ce = 0;
      de = 0;
      tw = 0;
      hr = 0;
      ol = 0;
      modes = replicate 5 0;
      demands = replicate 5 0;
      bespoke_rates = replicate 5 0;
      added_demands = replicate 5 0;
      distribution_revenue = 0;
      transmission_revenue = 0;
      part_year = record { count = 1; values = replicate 8 0 };
      distribution_tariff = record { count = 1; values = replicate 8 0 };
      transmission_tariff = record { count = 1; values = replicate 8 0 };
      month = 0;
      capacity = 1;
      scheme = 0;
      mark = 0;
    })
unfolding number bytes_of flat_map check_from due_from all_had front_of walk_from fields_from first_with judge_numbers same_bytes request_of
lowest_read = refl

-- every number at the highest of its limits or of its width
abbrev highest : List (List ℕ)
highest =
    (67 ∷ 79 ∷ 78 ∷ 78 ∷ []) ∷
    (4294967295 ∷ []) ∷
    (2 ∷ []) ∷
    (255 ∷ []) ∷
    replicate 6 1000000000 ∷
    (2 ∷ 1000000 ∷ 10000000 ∷ 2 ∷ 1000000 ∷ 10000000 ∷ 2 ∷ 1000000 ∷ 10000000 ∷ 2 ∷ 1000000 ∷ 10000000 ∷ 2 ∷ 1000000 ∷ 10000000 ∷ []) ∷
    replicate 5 1000000 ∷
    replicate 2 1000000000 ∷
    replicate 8 40000 ∷
    replicate 8 40000 ∷
    replicate 8 40000 ∷
    (65535 ∷ 1000000 ∷ 65535 ∷ 2 ∷ []) ∷
    []

pub highest_read :
    request_of 2 (request_file highest)
    ≡ Ok
    (record {
      person = 4294967295;
      class = 2;
      zone = 255;
      me = 1000000000;
      ce = 1000000000;
      de = 1000000000;
      tw = 1000000000;
      hr = 1000000000;
      ol = 1000000000;
      modes = replicate 5 2;
      demands = replicate 5 1000000;
      bespoke_rates = replicate 5 10000000;
      added_demands = replicate 5 1000000;
      distribution_revenue = 1000000000;
      transmission_revenue = 1000000000;
      part_year = record { count = 8; values = replicate 8 40000 };
      distribution_tariff = record { count = 8; values = replicate 8 40000 };
      transmission_tariff = record { count = 8; values = replicate 8 40000 };
      month = 65535;
      capacity = 1000000;
      scheme = 65535;
      mark = 2;
    })
unfolding number bytes_of flat_map check_from due_from all_had front_of walk_from fields_from first_with judge_numbers same_bytes request_of
highest_read = refl

-- Document 02, E6: the sample's request with 0D in place of 04. Its values after 03 stand 4 bytes lower, and the zone number is one of 16 bits.
abbrev wide_file : ℕ → List (List ℕ) → List ℕ
wide_file zone values = closed (without 3 (parts_from 1 request_widths values) ++ ((13, bytes_of 2 zone) ∷ []))

abbrev wide_cases : List (List ℕ × FileAnswer)
wide_cases =
    (wide_file 0 sample, Ok tt) ∷
    (wide_file 65535 sample, Ok tt) ∷
    (wide_file 1 (put 3 0 3 sample), refused 17) ∷
    (wide_file 1 (put 5 5 1000000000 sample), Ok tt) ∷
    (wide_file 1 (put 5 5 1000000001 sample), refused 41) ∷
    (wide_file 1 (put 3 0 1 (put 5 5 1 sample)), refused 41) ∷
    (wide_file 1 (put 8 0 1000000000 sample), Ok tt) ∷
    (wide_file 1 (put 8 0 1000000001 sample), refused 119) ∷
    (wide_file 1 (put 12 3 3 sample), refused 159) ∷
    []

pub wide_answers : map (λ row. answer_of (request_of 2 row.0)) wide_cases ≡ map (λ row. row.1) wide_cases
unfolding number bytes_of flat_map check_from due_from all_had front_of walk_from fields_from first_with judge_numbers same_bytes request_of
wide_answers = refl

-- both forms' zone numbers: about 255, and those that have a low byte alike
abbrev zones_read : List (List ℕ)
zones_read = request_file (put 4 0 7 sample) ∷ request_file (put 4 0 255 sample) ∷ map (λ zone. wide_file zone sample) (7 ∷ 255 ∷ 256 ∷ 263 ∷ 1400 ∷ 65535 ∷ [])

pub zones_read_lem : map (λ file. option_map (λ request. request.zone) (result_ok (request_of 2 file))) zones_read ≡ map Some (7 ∷ 255 ∷ 7 ∷ 255 ∷ 256 ∷ 263 ∷ 1400 ∷ 65535 ∷ [])
unfolding number bytes_of flat_map check_from due_from all_had front_of walk_from fields_from first_with judge_numbers same_bytes request_of
zones_read_lem = refl

-- modes, class and mark, of which the sample has some alike: no two of them are alike in both
abbrev other_cases : List (List ℕ)
other_cases = put 12 3 1 (put 6 0 2 (put 6 3 2 (put 6 6 1 (put 6 9 0 (put 6 12 0 sample)))))

abbrev cases_of : Request → List ℕ
cases_of request = request.class ∷ request.mark ∷ request.modes

pub other_cases_read : option_map cases_of (result_ok (request_of 2 (request_file other_cases))) ≡ Some (2 ∷ 1 ∷ 2 ∷ 2 ∷ 1 ∷ 0 ∷ 0 ∷ [])
unfolding number bytes_of flat_map check_from due_from all_had front_of walk_from fields_from first_with judge_numbers same_bytes request_of
other_cases_read = refl

-- each list full: no two factors are the same
abbrev full : List (List ℕ)
full =
    set
    (set
    (set sample 8 (6001 ∷ 6002 ∷ 6003 ∷ 6004 ∷ 6005 ∷ 6006 ∷ 6007 ∷ 6008 ∷ []))
    9 (7001 ∷ 7002 ∷ 7003 ∷ 7004 ∷ 7005 ∷ 7006 ∷ 7007 ∷ 7008 ∷ []))
    10 (8001 ∷ 8002 ∷ 8003 ∷ 8004 ∷ 8005 ∷ 8006 ∷ 8007 ∷ 8008 ∷ [])

abbrev lists_of : Request → List Factors
lists_of request = request.part_year ∷ request.distribution_tariff ∷ request.transmission_tariff ∷ []

pub full_read :
    option_map lists_of (result_ok (request_of 2 (request_file full)))
    ≡ Some
    (record { count = 8; values = 6001 ∷ 6002 ∷ 6003 ∷ 6004 ∷ 6005 ∷ 6006 ∷ 6007 ∷ 6008 ∷ [] } ∷
    record { count = 8; values = 7001 ∷ 7002 ∷ 7003 ∷ 7004 ∷ 7005 ∷ 7006 ∷ 7007 ∷ 7008 ∷ [] } ∷
    record { count = 8; values = 8001 ∷ 8002 ∷ 8003 ∷ 8004 ∷ 8005 ∷ 8006 ∷ 8007 ∷ 8008 ∷ [] } ∷
    [])
unfolding number bytes_of flat_map check_from due_from all_had front_of walk_from fields_from first_with judge_numbers same_bytes request_of
full_read = refl
