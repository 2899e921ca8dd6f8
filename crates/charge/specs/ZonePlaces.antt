-- The place of a zone among those that a book has.
use Rattle.std.specs.Prelude.{ℕ, ◌<◌, None, Option, Some}

abbrev pub ZoneBelow : ℕ → Option ℕ → Type 0
ZoneBelow zones None = Unit {0}
ZoneBelow zones (Some zone) = zone < zones
