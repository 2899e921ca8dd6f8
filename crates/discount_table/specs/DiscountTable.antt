-- Document 02, E7: the rule of F over the whole table of discount factors, as a test that is computed.
use Rattle.std.specs.Prelude.{ℕ, ◌+◌, ◌*◌, ◌/◌, Bool, true, false, ◌&&◌, List, [], ◌∷◌, length, ◌==◌}
use Rattle.discount.specs.DiscountYears.{last_year}

-- "rates from 3.00% to 6.00% in steps of 0.25%", the first in the first row
abbrev pub lowest_table_rate : ℕ
lowest_table_rate = 300

abbrev pub table_rate_step : ℕ
table_rate_step = 25

-- "F(n+1) = ⌊F(n) × 10,000 / (10,000 + b)⌋": whether later factors follow so from f
abbrev pub follows_from : ℕ → ℕ → List ℕ → Bool
follows_from b f [] = true
follows_from b f (next ∷ later) = next == f * 10000 / (10000 + b) && follows_from b next later

-- "F(0) = 100,000,000"; "with years 0 to 30"
abbrev pub row_follows : ℕ → List ℕ → Bool
row_follows b [] = false
row_follows b (first ∷ later) = length later == last_year && (first == 100000000 && follows_from b first later)

-- "The rule of F is shown once for the whole table": whether the first row follows it at the rate b, and each later one a step higher
abbrev pub table_follows : ℕ → List (List ℕ) → Bool
table_follows b [] = true
table_follows b (row ∷ later) = row_follows b row && table_follows (b + table_rate_step) later
