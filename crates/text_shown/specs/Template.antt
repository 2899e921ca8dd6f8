-- The template is the text with every name, its unit, limits and a value, ready to fill in: that of one file of each kind, which prices as it stands.
use Rattle.std.specs.Prelude.{ℕ, List, [], ◌∷◌}
use Rattle.text_names.specs.declared.table.Kind.{Kind}
use Rattle.text_names.specs.declared.table.Kind.TheVariants.{Book, Request}

unfoldable pub template_book : List ℕ
template_book =
    1 ∷ 0 ∷ 4 ∷ 82 ∷ 65 ∷ 84 ∷ 69 ∷
    2 ∷ 0 ∷ 2 ∷ 0 ∷ 0 ∷
    3 ∷ 0 ∷ 40 ∷ 0 ∷ 0 ∷ 0 ∷ 0 ∷ 0 ∷ 0 ∷ 0 ∷ 1 ∷ 0 ∷ 0 ∷ 0 ∷ 0 ∷ 0 ∷ 0 ∷ 0 ∷ 1 ∷ 0 ∷ 0 ∷ 0 ∷ 0 ∷ 0 ∷ 0 ∷ 0 ∷ 1 ∷ 0 ∷ 0 ∷ 0 ∷ 0 ∷ 0 ∷ 0 ∷ 0 ∷ 1 ∷ 0 ∷ 0 ∷ 0 ∷ 0 ∷ 0 ∷ 0 ∷ 0 ∷ 1 ∷
    4 ∷ 0 ∷ 2 ∷ 39 ∷ 16 ∷
    5 ∷ 0 ∷ 2 ∷ 39 ∷ 16 ∷
    6 ∷ 0 ∷ 14 ∷ 0 ∷ 76 ∷ 75 ∷ 64 ∷ 0 ∷ 0 ∷ 78 ∷ 32 ∷ 0 ∷ 0 ∷ 78 ∷ 32 ∷ 0 ∷ 84 ∷
    7 ∷ 0 ∷ 3 ∷ 1 ∷ 25 ∷ 100 ∷
    8 ∷ 0 ∷ 21 ∷ 1 ∷ 0 ∷ 0 ∷ 0 ∷ 0 ∷ 0 ∷ 0 ∷ 0 ∷ 0 ∷ 0 ∷ 0 ∷ 33 ∷ 52 ∷ 0 ∷ 0 ∷ 148 ∷ 112 ∷ 0 ∷ 0 ∷ 39 ∷ 16 ∷
    []

unfoldable pub template_request : List ℕ
template_request =
    1 ∷ 0 ∷ 4 ∷ 67 ∷ 79 ∷ 78 ∷ 78 ∷
    2 ∷ 0 ∷ 4 ∷ 0 ∷ 0 ∷ 18 ∷ 103 ∷
    3 ∷ 0 ∷ 1 ∷ 1 ∷
    4 ∷ 0 ∷ 1 ∷ 1 ∷
    5 ∷ 0 ∷ 24 ∷ 0 ∷ 24 ∷ 100 ∷ 36 ∷ 0 ∷ 0 ∷ 0 ∷ 0 ∷ 0 ∷ 0 ∷ 0 ∷ 0 ∷ 0 ∷ 0 ∷ 0 ∷ 0 ∷ 0 ∷ 0 ∷ 0 ∷ 0 ∷ 0 ∷ 0 ∷ 0 ∷ 0 ∷
    6 ∷ 0 ∷ 45 ∷ 0 ∷ 0 ∷ 0 ∷ 1 ∷ 144 ∷ 0 ∷ 0 ∷ 0 ∷ 0 ∷ 0 ∷ 0 ∷ 0 ∷ 1 ∷ 144 ∷ 0 ∷ 0 ∷ 0 ∷ 0 ∷ 0 ∷ 0 ∷ 0 ∷ 0 ∷ 200 ∷ 0 ∷ 0 ∷ 0 ∷ 0 ∷ 0 ∷ 0 ∷ 0 ∷ 0 ∷ 200 ∷ 0 ∷ 0 ∷ 0 ∷ 0 ∷ 0 ∷ 0 ∷ 0 ∷ 0 ∷ 150 ∷ 0 ∷ 0 ∷ 0 ∷ 0 ∷
    7 ∷ 0 ∷ 20 ∷ 0 ∷ 0 ∷ 0 ∷ 0 ∷ 0 ∷ 0 ∷ 0 ∷ 0 ∷ 0 ∷ 0 ∷ 0 ∷ 0 ∷ 0 ∷ 0 ∷ 0 ∷ 0 ∷ 0 ∷ 0 ∷ 0 ∷ 0 ∷
    8 ∷ 0 ∷ 8 ∷ 0 ∷ 0 ∷ 223 ∷ 232 ∷ 0 ∷ 0 ∷ 0 ∷ 0 ∷
    9 ∷ 0 ∷ 4 ∷ 0 ∷ 0 ∷ 39 ∷ 16 ∷
    10 ∷ 0 ∷ 2 ∷ 39 ∷ 16 ∷
    11 ∷ 0 ∷ 2 ∷ 39 ∷ 16 ∷
    12 ∷ 0 ∷ 9 ∷ 94 ∷ 251 ∷ 0 ∷ 0 ∷ 58 ∷ 152 ∷ 0 ∷ 0 ∷ 0 ∷
    []

-- the fields of the file before its check
abbrev pub template_fields : Kind → List ℕ
template_fields Book = template_book
template_fields Request = template_request
