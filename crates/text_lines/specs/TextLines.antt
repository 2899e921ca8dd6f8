-- All lines of a text, from its first on.
use Rattle.std.specs.Prelude.{ℕ, zero, suc, List, [], ◌∷◌, cond, length, eqb}
use Rattle.text_lines.specs.Lines.{first_line, behind_line}

-- `most` bounds their number
unfoldable pub lines_from : ℕ → List ℕ → List (List ℕ)
lines_from zero text = []
lines_from (suc most) text = cond (eqb (length text) 0) [] (first_line text ∷ lines_from most (behind_line text))

abbrev pub lines_of : List ℕ → List (List ℕ)
lines_of text = lines_from (length text) text
