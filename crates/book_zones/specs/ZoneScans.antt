-- Where the zones' values stand, and how two scans judge them: what the functions between a book's bytes and its values say of one another.
use Rattle.std.specs.Prelude.{ℕ, ◌+◌, List, [], ◌∷◌, length, Err, Ok, if◌then◌else◌, nat_lt, nat_le}
use Rattle.field_values.specs.Judged.{judge, in_order, Judged}
use Rattle.book_zones.specs.Zones.{number_width, zone_starts, judge_row, zone_tag}
use Rattle.book_zones.specs.declared.zones.ZoneLayout.{ZoneLayout}
use Rattle.tagged.specs.Find.{field_start}

-- the first zone's offset, and how far each zone stands from the next: tag and length, the number, five rates
abbrev pub first_zone : List ℕ → ℕ
first_zone s = field_start (zone_tag s) s

abbrev pub zones_apart : List ℕ → ℕ
zones_apart s = number_width s + 23

-- as one search finds it, for every reader of zones
abbrev pub zone_layout : List ℕ → ZoneLayout
zone_layout s = record { first = first_zone s; count = length (zone_starts s); width = number_width s; apart = zones_apart s }

-- The judgement of the zones' values by two scans, of the numbers and of the rates, of zones that stand so far apart; the lower place is the answer.
unfoldable pub judge_rise : ℕ → ℕ → ℕ → List ℕ → Judged
judge_rise apart least at [] = Ok tt
judge_rise apart least at (number ∷ numbers) = in_order (judge (nat_le least number) at) (judge_rise apart (number + 1) (at + apart) numbers)

unfoldable pub judge_rows : ℕ → ℕ → List (List ℕ) → Judged
judge_rows apart rates [] = Ok tt
judge_rows apart rates (row ∷ rows) = in_order (judge_row rates row) (judge_rows apart (rates + apart) rows)

abbrev pub lower : Judged → Judged → Judged
lower (Ok _) other = other
lower (Err at) (Ok _) = Err at
lower (Err at) (Err at') = if nat_lt at' at then Err at' else Err at
