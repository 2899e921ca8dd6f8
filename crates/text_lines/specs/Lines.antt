-- The lines of a text. "A UTF-8 mark" before it is left out; "UTF-16 and a zip (.xlsx) are told as what they are".
use Rattle.std.specs.Prelude.{ℕ, ◌+◌, ◌-◌, List, [], ◌∷◌, Bool, cond, ◌&&◌, ◌||◌, length, get_or, take, drop, ltb, eqb, codes}
use Rattle.std.specs.List.{starts_with, position_or_len}
use Rattle.std.specs.Str.{str_eq_ignore_ascii_case}
use Rattle.unit_text.specs.Figure.{is}
use Rattle.unit_text.specs.Read.{last_is}
use Rattle.text_lines.specs.Columns.{is_separator}
use Rattle.text_lines.specs.declared.lines.Form.{Form}
use Rattle.text_lines.specs.declared.lines.Form.TheVariants.{Utf8, Utf16, Zip, Binary}

-- ---- what the bytes are
abbrev pub has_zero : List ℕ → Bool
has_zero text = ltb (position_or_len (is 0) text) (length text)

unfoldable pub form_of : List ℕ → Form
form_of text =
    cond (starts_with eqb text (80 ∷ 75 ∷ 3 ∷ 4 ∷ [])) Zip
    (cond (starts_with eqb text (255 ∷ 254 ∷ []) || starts_with eqb text (254 ∷ 255 ∷ [])) Utf16
    (cond (has_zero text) Binary Utf8))

unfoldable pub without_mark : List ℕ → List ℕ
without_mark text = cond (starts_with eqb text (239 ∷ 187 ∷ 191 ∷ [])) (drop 3 text) text

-- ---- lines: each ends before byte 0A, and without a byte 0D there
abbrev pub line_length : List ℕ → ℕ
line_length text = position_or_len (is 10) text

abbrev pub without_return : List ℕ → List ℕ
without_return line = cond (last_is 13 line) (take (length line - 1) line) line

unfoldable pub first_line : List ℕ → List ℕ
first_line text = without_return (take (line_length text) text)

unfoldable pub behind_line : List ℕ → List ℕ
behind_line text = drop (line_length text + 1) text

-- "`sep=;`": the separator that a line says is that of the text; 0 where it says none
unfoldable pub separator_said : List ℕ → ℕ
separator_said line =
    cond (eqb (length line) 5 && str_eq_ignore_ascii_case (take 4 line) (codes "sep=") && is_separator 0 (get_or line 4 0)) (get_or line 4 0) 0
