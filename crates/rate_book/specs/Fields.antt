-- Document 01, 'Rate book': the fields one by one, each with the limits on its values and what it says. The two lists of factors have theirs in field_values,
-- the zones in book_zones.
use Rattle.std.specs.Prelude.{ℕ, ◌+◌, List, [], ◌∷◌, nat_lt, nat_le}
use Rattle.numbers.specs.BigEndian.{number_at}
use Rattle.tagged.specs.Find.{field_start, field_value}
use Rattle.field_values.specs.Limits.{highest_discount_rate, highest_threshold, highest_minimum, lowest_term, highest_share}
use Rattle.field_values.specs.Judged.{judge, first_failure, Judged}
use Rattle.rate_book.specs.declared.fields.Sums.{Sums}
use Rattle.rate_book.specs.declared.fields.Terms.{Terms}
use Rattle.rate_book.specs.declared.fields.Charging.{Charging}

-- 02, "discount rate b, hundredths of a percent, 0 to 10,000"
abbrev pub rate_limits : List (List ℕ)
rate_limits = (2 ∷ 0 ∷ highest_discount_rate ∷ []) ∷ []

abbrev pub rate_in : List ℕ → ℕ
rate_in s = number_at (field_value 2 s) 0 2

-- the sum of five 4-byte figures that stand 8 bytes apart, the first at `from`
abbrev pub sum_from : List ℕ → ℕ → ℕ
sum_from value from =
    number_at value from 4 + number_at value (from + 8) 4 + number_at value (from + 16) 4 + number_at value (from + 24) 4 + number_at value (from + 32) 4

-- 03, "five pairs of 4-byte figures in thousands of dollars, selected opex then distribution revenue"
abbrev pub sums_in : List ℕ → Sums
sums_in s = record { opex = sum_from (field_value 3 s) 0; revenue = sum_from (field_value 3 s) 4 }

-- "The opex sum is at most the revenue sum, which isn't 0." Both have the place of that field's value.
abbrev pub sum_judgements : List ℕ → List Judged
sum_judgements s =
    judge (nat_le (sums_in s).opex (sums_in s).revenue) (field_start 3 s) ∷
    judge (nat_lt 0 (sums_in s).revenue) (field_start 3 s) ∷
    []

abbrev pub judge_sums : List ℕ → Judged
judge_sums s = first_failure (sum_judgements s)

-- 06, "threshold (4), at most 5,000,000; fee (4), at most the minimum; minimum (4), at most 1,000,000,000; term in months (2), at least 84"
abbrev pub terms_in : List ℕ → Terms
terms_in s =
    record {
      threshold = number_at (field_value 6 s) 0 4;
      fee = number_at (field_value 6 s) 4 4;
      minimum = number_at (field_value 6 s) 8 4;
      term = number_at (field_value 6 s) 12 2;
    }

abbrev pub term_judgements : List ℕ → List Judged
term_judgements s =
    judge (nat_le (terms_in s).threshold highest_threshold) (field_start 6 s) ∷
    judge (nat_le (terms_in s).fee (terms_in s).minimum) (field_start 6 s + 4) ∷
    judge (nat_le (terms_in s).minimum highest_minimum) (field_start 6 s + 8) ∷
    judge (nat_le lowest_term (terms_in s).term) (field_start 6 s + 12) ∷
    []

abbrev pub judge_terms : List ℕ → Judged
judge_terms s = first_failure (term_judgements s)

-- 07, "capacity charged, 0 or 1; credit share (2), 0 to 10,000"
abbrev pub charged_limits : List (List ℕ)
charged_limits = (1 ∷ 0 ∷ 1 ∷ []) ∷ (2 ∷ 0 ∷ highest_share ∷ []) ∷ []

abbrev pub charging_in : List ℕ → Charging
charging_in s = record { charged = number_at (field_value 7 s) 0 1; share = number_at (field_value 7 s) 1 2 }
