-- The years that have a discount factor.
use Rattle.std.specs.Prelude.{ℕ}

-- "years 0 to 30"
abbrev pub last_year : ℕ
last_year = 30
