-- The version of the interface, as the header names it.
use Rattle.std.specs.Prelude.{ℕ}

abbrev pub version : ℕ
version = 5
