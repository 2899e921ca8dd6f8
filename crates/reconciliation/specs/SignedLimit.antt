-- What fits 64 bits with a sign.
use Rattle.std.specs.Prelude.{ℕ}

-- 2⁶³: an amount below it fits 64 bits with a sign
abbrev pub signed_below : ℕ
signed_below = 9223372036854775808
