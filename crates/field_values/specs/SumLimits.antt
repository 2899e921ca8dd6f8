-- How high the sums of a book's figures are.
use Rattle.std.specs.Prelude.{ℕ}

-- "five pairs of 4-byte figures": a sum of five is below 5 × 2^32
abbrev pub sums_below : ℕ
sums_below = 21474836480
