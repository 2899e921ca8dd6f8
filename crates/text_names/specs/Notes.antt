-- What is allowed for a value, and the notes that stand above a field's lines in a text.
use Rattle.std.specs.Prelude.{ℕ, ◌+◌, ◌-◌, List, [], ◌∷◌, ◌++◌, cond, length, get_or, eqb, ltb, codes}
use Rattle.text_output.specs.Digits.{decimal}
use Rattle.text_output.specs.Pieces.{each}
use Rattle.unit_text.specs.Measure.{words_of}
use Rattle.unit_text.specs.Shown.{said, unit_decimals, unit_name}
use Rattle.unit_text.specs.declared.measure.Words.{Words}
use Rattle.unit_text.specs.declared.measure.Measure.{Measure}
use Rattle.unit_text.specs.declared.measure.Measure.TheVariants.{Choice}
use Rattle.text_names.specs.Table.{row_at, highest_of_four_bytes}
use Rattle.text_names.specs.Names.{row_name}
use Rattle.text_names.specs.declared.table.Kind.{Kind}
use Rattle.text_names.specs.declared.table.Kind.TheVariants.{Book, Request}
use Rattle.text_names.specs.declared.table.Over.{Over}
use Rattle.text_names.specs.declared.table.Over.TheVariants.{Years, Zones}
use Rattle.text_names.specs.declared.table.Limits.{Limits}
use Rattle.text_names.specs.declared.table.Limits.TheVariants.{Within, UpTo, Rising, Only, Sums}
use Rattle.text_names.specs.declared.table.Field.{Field}

-- ---- what is allowed
abbrev pub word_text : Words → ℕ → List ℕ
word_text words number = get_or (words_of words) number []

-- two or three words with 'or' before the last
abbrev pub choice_text : Words → List ℕ
choice_text words =
    cond (eqb (length (words_of words)) 2)
    (word_text words 0 ++ (codes " or " ++ word_text words 1))
    (word_text words 0 ++ (codes ", " ++ (word_text words 1 ++ (codes " or " ++ word_text words 2))))

-- one of its words, or from the lowest to the highest
unfoldable pub from_to : Measure → ℕ → ℕ → List ℕ
from_to (Choice words) low high = choice_text words
from_to measure low high = said measure low ++ (codes " to " ++ said measure high)

-- " where class is special pricing"
abbrev pub where_text : Kind → ℕ → ℕ → List ℕ
where_text kind other word = codes " where " ++ (row_name kind other ++ (codes " is " ++ said (row_at kind other).measure word))

-- "0.00 to 10,000,000.00 where class is special pricing, otherwise 0.00"
unfoldable pub only_text : Kind → Measure → ℕ → ℕ → ℕ → List ℕ
only_text kind measure high other word = from_to measure 0 high ++ (where_text kind other word ++ (codes ", otherwise " ++ said measure 0))

-- "0 to 4294967295, together at most the distribution revenue together, which isn't 0"
unfoldable pub sums_text : Kind → Measure → ℕ → List ℕ
sums_text kind measure other =
    from_to measure 0 highest_of_four_bytes ++ (codes ", together at most the " ++ (row_name kind other ++ codes " together, which isn't 0"))

unfoldable pub allowed_text : Kind → Measure → Limits → List ℕ
allowed_text kind measure (Within low high) = from_to measure low high
allowed_text kind measure (UpTo other) = said measure 0 ++ (codes " to the " ++ row_name kind other)
allowed_text kind measure (Rising high) = from_to measure 0 high ++ codes ", above that of the zone before"
allowed_text kind measure (Only high other word) = only_text kind measure high other word
allowed_text kind measure (Sums other) = sums_text kind measure other

-- ---- what a value is
abbrev pub unit_front : Measure → List ℕ
unit_front measure = cond (eqb (length (unit_name measure)) 0) [] (unit_name measure ++ codes ", ")

abbrev pub decimals_back : Measure → List ℕ
decimals_back measure = cond (eqb (unit_decimals measure) 0) [] (codes ", at most " ++ (decimal (unit_decimals measure) ++ codes " decimals"))

-- what else a text says of the values of a row
abbrev pub row_note : Kind → ℕ → List ℕ
row_note Book number = []
row_note Request number = cond (eqb number 11) (codes ", used in mode bespoke alone") (cond (eqb number 20) (codes ", 0 for none") [])

-- "dollars, 0.00 to 50,000.00, at most 2 decimals"
unfoldable pub described : Kind → ℕ → List ℕ
described kind number =
    let values = row_at kind number in
    unit_front values.measure ++ (allowed_text kind values.measure values.limits ++ (decimals_back values.measure ++ row_note kind number))

-- ---- the notes
-- the first of the rows that are described alike, and the last of them where there are more
unfoldable pub names_text : Kind → ℕ → ℕ → List ℕ
names_text kind number alike = row_name kind number ++ cond (ltb 1 alike) (codes " to " ++ row_name kind (number + alike - 1)) []

unfoldable pub note_line : Kind → ℕ → List ℕ
note_line kind number =
    let alike = (row_at kind number).alike in
    cond (eqb alike 0) [] (codes "# " ++ (names_text kind number alike ++ (codes ": " ++ (described kind number ++ (10 ∷ [])))))

abbrev pub over_note : Over → List ℕ
over_note Years = codes "# up to year 7; the last given holds for all later years\n"
over_note Zones = codes "# up to the eighth zone\n"
over_note over = []

abbrev pub form_note : Field → List ℕ
form_note f =
    cond (eqb f.wide_tag f.tag) []
    (codes "# zone number bytes: 1 or 2, may be left out: then 1 where every zone number is at most 255, otherwise 2\n")

-- one for the rows that are alike, then what the values are repeated over, and the form of a file with zone numbers
unfoldable pub field_notes : Kind → Field → List ℕ
field_notes kind f = each (note_line kind) f.rows f.first ++ (over_note f.over ++ form_note f)
