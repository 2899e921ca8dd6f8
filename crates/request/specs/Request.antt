-- Document 01, 'Request': the values of a request, or its refusal, from its bytes alone.
use Rattle.std.specs.Prelude.{ℕ, List, [], ◌∷◌, Result}
use Rattle.tagged.specs.File.{file_answer, fields_part}
use Rattle.tagged.specs.declared.file.Refusal.{Refusal}
use Rattle.field_values.specs.Judged.{first_failure, judge_field, judge_letters, Judged}
use Rattle.field_values.specs.Factors.{factors_of, judge_factors}
use Rattle.field_values.specs.Reading.{reading_of}
use Rattle.request.specs.RequestRows.{request_rows}
use Rattle.request.specs.Fields.{person_in, class_limits, class_in, zone_in, amount_limits, amounts_in, five_tier_limits, tiers_in, added_limits, added_in, revenue_limits, revenues_in, connection_limits, connection_in}
use Rattle.request.specs.declared.values.Request.{Request}

-- 01, "the letters CONN"
abbrev pub request_letters : List ℕ
request_letters = 67 ∷ 79 ∷ 78 ∷ 78 ∷ []

-- the class, and the six amounts by it
abbrev pub charge_judgements : List ℕ → List Judged
charge_judgements s = judge_field class_limits 3 s ∷ judge_field (amount_limits (class_in s)) 5 s ∷ []

abbrev pub judge_charges : List ℕ → Judged
judge_charges s = first_failure (charge_judgements s)

-- 3: every value of the fields s, in byte order. Person and zone take any value of their width.
abbrev pub request_judgements : List ℕ → List Judged
request_judgements s =
    judge_letters request_letters s ∷
    judge_charges s ∷
    judge_field five_tier_limits 6 s ∷
    judge_field added_limits 7 s ∷
    judge_field revenue_limits 8 s ∷
    judge_factors 9 s ∷
    judge_factors 10 s ∷
    judge_factors 11 s ∷
    judge_field connection_limits 12 s ∷
    []

abbrev pub judge_request : List ℕ → Judged
judge_request s = first_failure (request_judgements s)

-- what the fields s say
abbrev pub request_values : List ℕ → Request
request_values s =
    record {
      person = person_in s;
      class = class_in s;
      zone = zone_in s;
      me = (amounts_in s).me;
      ce = (amounts_in s).ce;
      de = (amounts_in s).de;
      tw = (amounts_in s).tw;
      hr = (amounts_in s).hr;
      ol = (amounts_in s).ol;
      modes = (tiers_in s).modes;
      demands = (tiers_in s).demands;
      bespoke_rates = (tiers_in s).bespoke_rates;
      added_demands = added_in s;
      distribution_revenue = (revenues_in s).distribution;
      transmission_revenue = (revenues_in s).transmission;
      part_year = factors_of 9 s;
      distribution_tariff = factors_of 10 s;
      transmission_tariff = factors_of 11 s;
      month = (connection_in s).month;
      capacity = (connection_in s).capacity;
      scheme = (connection_in s).scheme;
      mark = (connection_in s).mark;
    }

-- "Order for a file: 1 for its last five bytes, 2, 1 for the rest, 3 in byte order."
unfoldable pub request_of : ℕ → List ℕ → Result Request Refusal
request_of number file = reading_of number (file_answer request_rows number file) (judge_request (fields_part file)) (request_values (fields_part file))
