-- Document 01, 'Rate book', 04 and 05: "distribution and transmission revenue factors, 1 to 8 of 2 bytes, each 0 to 40,000"; 'Request', 09, 0A and 0B:
-- "part-year, distribution tariff and transmission tariff factors, as in 04".
use Rattle.std.specs.Prelude.{ℕ, ◌+◌, ◌/◌, List, [], ◌∷◌, length, replicate, if◌then◌else◌, nat_le}
use Rattle.numbers.specs.BigEndian.{number_at}
use Rattle.tagged.specs.Find.{field_value}
use Rattle.field_values.specs.Limits.{most_factors, highest_factor}
use Rattle.field_values.specs.Judged.{judge_field, Judged}
use Rattle.field_values.specs.declared.factors.Factors.{Factors}

-- "1 to 8 of 2 bytes, each 0 to 40,000"
abbrev pub factor_limits : List (List ℕ)
factor_limits = replicate most_factors (2 ∷ 0 ∷ highest_factor ∷ [])

abbrev pub judge_factors : ℕ → List ℕ → Judged
judge_factors tag s = judge_field factor_limits tag s

-- the factor at an offset of a list's bytes; 0 past its end
abbrev pub factor_at : List ℕ → ℕ → ℕ
factor_at value at = if nat_le (at + 2) (length value) then number_at value at 2 else 0

abbrev pub factors_in : List ℕ → Factors
factors_in value =
    record {
      count = length value / 2;
      values =
          factor_at value 0 ∷ factor_at value 2 ∷ factor_at value 4 ∷ factor_at value 6 ∷
          factor_at value 8 ∷ factor_at value 10 ∷ factor_at value 12 ∷ factor_at value 14 ∷ [];
    }

-- the factors of the field with this tag
abbrev pub factors_of : ℕ → List ℕ → Factors
factors_of tag s = factors_in (field_value tag s)
