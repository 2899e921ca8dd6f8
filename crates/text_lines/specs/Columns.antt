-- The columns of a line: "a name and its value on each line, as spreadsheets export two columns (comma, semicolon or tab, quotes), or as `name = value`"; "a third
-- column as a note".
use Rattle.std.specs.Prelude.{ℕ, ◌+◌, ◌-◌, List, [], ◌∷◌, Bool, false, cond, not, ◌&&◌, ◌||◌, length, get_or, take, drop, leb, eqb, codes}
use Rattle.std.specs.Char.{is_ascii_digit}
use Rattle.std.specs.Str.{str_eq_ignore_ascii_case}
use Rattle.unit_text.specs.Read.{trimmed, first_is, last_is}
use Rattle.text_lines.specs.declared.columns.Line.{Line}
use Rattle.text_lines.specs.declared.columns.Line.TheVariants.{Nothing, Unclosed, Many, Pair}

-- what a line says: nothing, a quote that isn't closed, more columns than two and a note, or a name and its value
pub data Said : Type 0 where
  nothing : Said
  unclosed : Said
  many : Said
  pair : List ℕ → List ℕ → Said

abbrev pub said_of : Line → Said
said_of Nothing = nothing
said_of Unclosed = unclosed
said_of Many = many
said_of (Pair name value) = pair name.now value.now

-- ---- columns
-- comma, semicolon, tab and equals sign; where one of them separates, that alone
abbrev pub is_separator : ℕ → ℕ → Bool
is_separator separator byte = cond (eqb separator 0) (eqb byte 44 || eqb byte 59 || eqb byte 9 || eqb byte 61) (eqb byte separator)

-- how many bytes stand before the first separator outside quotes
unfoldable pub column_from : ℕ → Bool → List ℕ → ℕ
column_from separator quoted [] = 0
column_from separator quoted (byte ∷ rest) =
    cond (eqb byte 34) (1 + column_from separator (not quoted) rest)
    (cond (not quoted && is_separator separator byte) 0 (1 + column_from separator quoted rest))

abbrev pub column_length : ℕ → List ℕ → ℕ
column_length separator line = column_from separator false line

-- every quote is closed
unfoldable pub closes_from : Bool → List ℕ → Bool
closes_from quoted [] = not quoted
closes_from quoted (byte ∷ rest) = closes_from (cond (eqb byte 34) (not quoted) quoted) rest

-- a column without white space about it, and without its quotes
abbrev pub is_quoted : List ℕ → Bool
is_quoted column = leb 2 (length column) && first_is 34 column && last_is 34 column

abbrev pub without_quotes : List ℕ → List ℕ
without_quotes column = cond (is_quoted column) (trimmed (take (length column - 2) (drop 1 column))) column

unfoldable pub bare : List ℕ → List ℕ
bare column = without_quotes (trimmed column)

abbrev pub first_column : ℕ → List ℕ → List ℕ
first_column separator line = take (column_length separator line) line

-- what stands behind it, and the byte between them; 0 where there is none
abbrev pub behind_column : ℕ → List ℕ → List ℕ
behind_column separator line = drop (column_length separator line + 1) line

abbrev pub mark_of : ℕ → List ℕ → ℕ
mark_of separator line = get_or line (column_length separator line) 0

-- ---- lines
-- a line that starts with #, also in quotes
unfoldable pub is_comment : List ℕ → Bool
is_comment line = first_is 35 (trimmed line) || (first_is 34 (trimmed line) && first_is 35 (trimmed (drop 1 (trimmed line))))

abbrev pub is_heading : List ℕ → List ℕ → Bool
is_heading name value = str_eq_ignore_ascii_case name (codes "name") && str_eq_ignore_ascii_case value (codes "value")

-- A note starts with no digit: behind a comma that would be a value's thousands.
abbrev pub starts_with_digit : List ℕ → Bool
starts_with_digit note = is_ascii_digit (get_or note 0 0)

unfoldable pub of_columns : List ℕ → List ℕ → List ℕ → Said
of_columns name value note =
    cond (eqb (length name) 0 && eqb (length value) 0) nothing
    (cond (starts_with_digit note) many
    (cond (is_heading name value) nothing (pair name value)))

abbrev pub in_columns : ℕ → List ℕ → Said
in_columns separator line =
    let mark = mark_of separator line in
    let rest = behind_column separator line in
    of_columns (bare (first_column separator line)) (bare (first_column mark rest)) (bare (first_column mark (behind_column mark rest)))

unfoldable pub line_said : ℕ → List ℕ → Said
line_said separator line = cond (is_comment line) nothing (cond (closes_from false line) (in_columns separator line) unclosed)
