-- The bound on what the tolerances hold, by which no sum or product in them overflows.
use Rattle.std.specs.Prelude.{ℕ}

abbrev pub limit : ℕ
limit = 10000000000000
