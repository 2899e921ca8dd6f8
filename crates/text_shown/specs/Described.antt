-- A row of the table for whoever makes a form: name, unit, lowest, highest, words of a choice, what it is repeated over.
use Rattle.std.specs.Prelude.{ℕ, ◌+◌, List, [], ◌∷◌, ◌++◌, cond, length, drop, ltb, eqb, codes, Ok, Err}
use Rattle.tagged.specs.File.{refusal}
use Rattle.tagged.specs.Refusals.{output_too_short}
use Rattle.field_values.specs.Limits.{highest_minimum}
use Rattle.unit_text.specs.Measure.{words_of}
use Rattle.unit_text.specs.Shown.{shown, unit_name}
use Rattle.unit_text.specs.declared.measure.Measure.{Measure}
use Rattle.unit_text.specs.declared.measure.Measure.TheVariants.{Choice}
use Rattle.text_names.specs.Table.{highest_of_four_bytes, fields, row_at}
use Rattle.text_names.specs.Names.{row_name}
use Rattle.text_names.specs.Notes.{word_text}
use Rattle.text_names.specs.declared.table.Kind.{Kind}
use Rattle.text_names.specs.declared.table.Over.{Over}
use Rattle.text_names.specs.declared.table.Over.TheVariants.{Nothing, Pairs, Tiers, Years, Zones}
use Rattle.text_names.specs.declared.table.Limits.{Limits}
use Rattle.text_names.specs.declared.table.Limits.TheVariants.{Within, UpTo, Rising, Only, Sums}
use Rattle.text_names.specs.declared.table.Field.{Field}
use Rattle.text_shown.specs.Show.{TextWritten}

-- whatever the other values of a file are
abbrev pub lowest_of : Limits → ℕ
lowest_of (Within low high) = low
lowest_of limits = 0

-- a fee is at most the minimum, and that at most this
abbrev pub highest_of : Limits → ℕ
highest_of (Within low high) = high
highest_of (UpTo other) = highest_minimum
highest_of (Rising high) = high
highest_of (Only high other word) = high
highest_of (Sums other) = highest_of_four_bytes

-- the words with commas between them; nothing of what is no choice
abbrev pub words_text : Measure → List ℕ
words_text (Choice words) =
    cond (eqb (length (words_of words)) 2)
    (word_text words 0 ++ (codes "," ++ word_text words 1))
    (word_text words 0 ++ (codes "," ++ (word_text words 1 ++ (codes "," ++ word_text words 2))))
words_text measure = []

abbrev pub over_text : Over → List ℕ
over_text Nothing = codes "nothing"
over_text Pairs = codes "pairs"
over_text Tiers = codes "tiers"
over_text Years = codes "years"
over_text Zones = codes "zones"

-- of the field that a row is of
unfoldable pub over_in : List Field → ℕ → Over
over_in [] number = Nothing
over_in (f ∷ later) number = cond (ltb number (f.first + f.rows)) f.over (over_in later number)

-- a line each: name and unit, lowest and highest, words and what it is repeated over
abbrev pub heads_text : List ℕ → List ℕ → List ℕ
heads_text name unit = name ++ (10 ∷ (unit ++ (10 ∷ [])))

abbrev pub ends_text : Measure → Limits → List ℕ
ends_text measure limits = shown measure (lowest_of limits) ++ (10 ∷ (shown measure (highest_of limits) ++ (10 ∷ [])))

abbrev pub tails_text : Measure → Over → List ℕ
tails_text measure over = words_text measure ++ (10 ∷ (over_text over ++ (10 ∷ [])))

unfoldable pub described_text : Kind → ℕ → List ℕ
described_text kind number =
    let values = row_at kind number in
    heads_text (row_name kind number) (unit_name values.measure)
    ++ (ends_text values.measure values.limits ++ tails_text values.measure (over_in (fields kind) number))

-- past the last row nothing
unfoldable pub row_text : Kind → ℕ → List ℕ
row_text kind number = cond (eqb (length (row_name kind number)) 0) [] (described_text kind number)

-- no row's text is longer
abbrev pub longest_row : ℕ
longest_row = 256

abbrev pub row_written : Kind → ℕ → List ℕ → TextWritten
row_written kind number out = cond (ltb (length out) longest_row) (Err (refusal output_too_short 0 0)) (Ok (length (row_text kind number)))

abbrev pub row_output : Kind → ℕ → List ℕ → List ℕ
row_output kind number out = cond (ltb (length out) longest_row) out (row_text kind number ++ drop (length (row_text kind number)) out)
