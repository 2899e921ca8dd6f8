-- The loop keeps that the array holds the rows of the zones passed, and zeros after them; zones stand equally far apart (zones_stand).
use Rattle.std.proofs.Common.{replicate, ◌≡◌}
use Rattle.field_values.specs.Limits.{tier_count}
use Rattle.book_zones.specs.Zones.{rate_row}
use Rattle.book_zones.proofs.Filling.{filled_to}
use Rattle.book_zones.proofs.zones.BookFields.zone_rates.Given as goal

abbrev pub invariant-loop-zone : goal.invariant-loop-zone
invariant-loop-zone l = l.rates ≡ filled_to (replicate tier_count 0) (rate_row l.self.fields.now) l.self.fields.now l.zone
