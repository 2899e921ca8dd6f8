-- What the readers of a book's zones need of them, where its fields walk.
use Prim.Native.Nat.{ℕ, ◌+◌, ◌*◌, ◌-◌, ◌/◌, ◌≤◌}
use Rattle.std.specs.Prelude.{◌≡◌, List, length, take, Ok}
use Rattle.std.proofs.Common.{sym, ap, ◌∙◌, arith, mul-div_cancel}
use Rattle.field_values.specs.Limits.{most_zones}
use Rattle.field_walk.specs.Walk.{walk}
use Rattle.field_walk.specs.Walked.{walked}
use Rattle.book_zones.specs.BookRows.{book_rows}
use Rattle.book_zones.specs.Zones.{number_width, zone_starts, zone_numbers, zone_rates, judge_zones}
use Rattle.book_zones.specs.ZoneScans.{first_zone, zones_apart, judge_rise, judge_rows, lower}
use Rattle.book_zones.proofs.Theorems.ZoneFields.{ZonesStand, fields_walk, zones_stand}
use Rattle.book_zones.proofs.Theorems.Zones.{judge_zones_by_scans}

module _ (s : List ℕ) (walks : walked (walk book_rows s) ≡ Ok tt) where
  pub stand : ZonesStand s
  stand = zones_stand s (fields_walk s walks)

  pub zones_end : first_zone s + zones_apart s * length (zone_starts s) ≡ length s + 3
  zones_end = stand.ends

  pub zones_most : length (zone_starts s) ≤ most_zones
  zones_most = stand.most

  -- they take the same number of bytes each, so the division is exact
  pub zones_counted : length (zone_starts s) ≡ (length s + 3 - first_zone s) / zones_apart s
  zones_counted =
      let bytes : length s + 3 - first_zone s ≡ length (zone_starts s) * zones_apart s = omega (arith, zones_end) in
      sym (ap (λ (size : ℕ). size / zones_apart s) bytes ∙ mul-div_cancel (length (zone_starts s)) (omega arith))

  -- the lower place of the two scans is the first in byte order
  pub scans_judge :
      lower (judge_rise (zones_apart s) 0 (first_zone s) (take (length (zone_starts s)) (zone_numbers s)))
      (judge_rows (zones_apart s) (first_zone s + number_width s) (take (length (zone_starts s)) (zone_rates s)))
      ≡ judge_zones s
  scans_judge = judge_zones_by_scans s stand
