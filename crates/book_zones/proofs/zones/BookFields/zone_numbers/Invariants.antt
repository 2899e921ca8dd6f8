-- The loop keeps that the array holds the numbers of the zones passed, and 0 after them; zones stand equally far apart (zones_stand).
use Rattle.std.proofs.Common.{◌≡◌}
use Rattle.book_zones.specs.Zones.{zone_number}
use Rattle.book_zones.proofs.Filling.{filled_to}
use Rattle.book_zones.proofs.zones.BookFields.zone_numbers.Given as goal

abbrev pub invariant-loop-zone : goal.invariant-loop-zone
invariant-loop-zone l = l.numbers ≡ filled_to 0 (zone_number l.self.fields.now) l.self.fields.now l.zone
