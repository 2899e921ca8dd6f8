-- Where the values of a file's fields stand, by the table. Of fields that don't stand there, what can be found is found.
use Rattle.std.specs.Prelude.{ℕ, ◌+◌, ◌-◌, ◌*◌, ◌/◌, List, Bool, cond, not, ◌&&◌, length, min, ltb, eqb, is_some}
use Rattle.numbers.specs.BigEndian.{number_at}
use Rattle.tagged.specs.Find.{first_place, field_start, field_value}
use Rattle.text_names.specs.Table.{row_at}
use Rattle.text_names.specs.declared.table.Kind.{Kind}
use Rattle.text_names.specs.declared.table.Kind.TheVariants.{Book, Request}
use Rattle.text_names.specs.declared.table.Over.{Over}
use Rattle.text_names.specs.declared.table.Over.TheVariants.{Nothing, Pairs, Tiers, Years, Zones}
use Rattle.text_names.specs.declared.table.Field.{Field}
use Rattle.text_names.specs.declared.table.Row.{Row}

-- document 02, E6: zone numbers have two bytes where 09 stands in place of 08, 0D in place of 04
abbrev pub wide_tag : Kind → ℕ
wide_tag Book = 9
wide_tag Request = 13

abbrev pub is_wide : Kind → List ℕ → Bool
is_wide kind s = is_some (first_place (wide_tag kind) s)

-- a field with a zone number of two bytes
abbrev pub has_two_bytes : Bool → Field → Bool
has_two_bytes wide f = wide && not (eqb f.wide_tag f.tag)

abbrev pub tag_in : Bool → Field → ℕ
tag_in wide f = cond wide f.wide_tag f.tag

-- the bytes of its values, once each
abbrev pub size_in : Bool → Field → ℕ
size_in wide f = cond (has_two_bytes wide f) (f.size + 1) f.size

-- a zone number is the first of its field's values
abbrev pub width_in : Bool → Field → Row → ℕ
width_in wide f values = cond (has_two_bytes wide f && eqb values.place 0) 2 values.width

abbrev pub place_in : Bool → Field → Row → ℕ
place_in wide f values = cond (has_two_bytes wide f && ltb 0 values.place) (values.place + 1) values.place

-- how far a round stands from the next: zones are fields of their own
abbrev pub step_in : Bool → Field → Over → ℕ
step_in wide f Zones = size_in wide f + 3
step_in wide f over = size_in wide f

abbrev pub start_in : Bool → Field → List ℕ → ℕ
start_in wide f s = field_start (tag_in wide f) s

-- how often the values stand, at most eight times
abbrev pub rounds_by : Bool → Field → List ℕ → Over → ℕ
rounds_by wide f s Nothing = 1
rounds_by wide f s Pairs = 5
rounds_by wide f s Tiers = 5
rounds_by wide f s Years = min 8 (length (field_value (tag_in wide f) s) / 2)
rounds_by wide f s Zones = min 8 ((length s + 3 - start_in wide f s) / (size_in wide f + 3))

unfoldable pub rounds : Bool → Field → List ℕ → ℕ
rounds wide f s = rounds_by wide f s f.over

-- a number of so many bytes at an offset; 0 where the bytes aren't there
unfoldable pub number_in : List ℕ → ℕ → ℕ → ℕ
number_in s at width = cond (ltb (length s - at) width) 0 (number_at s at width)

unfoldable pub value_number : Kind → Field → Bool → List ℕ → ℕ → ℕ → ℕ
value_number kind f wide s round number =
    let values = row_at kind number in
    number_in s (start_in wide f s + round * step_in wide f f.over + place_in wide f values) (width_in wide f values)
