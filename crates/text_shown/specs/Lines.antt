-- The text of a file's fields: "a name and its value on each line", with notes of units and limits above those of each field.
use Rattle.std.specs.Prelude.{ℕ, zero, suc, ◌+◌, List, [], ◌∷◌, ◌++◌, Bool, true, cond, ◌&&◌, length, leb, codes}
use Rattle.text_output.specs.Pieces.{each}
use Rattle.unit_text.specs.Shown.{shown}
use Rattle.text_names.specs.Table.{fields, field_at, row_at}
use Rattle.text_names.specs.Names.{kind_name, value_name}
use Rattle.text_names.specs.Notes.{field_notes}
use Rattle.text_names.specs.declared.table.Kind.{Kind}
use Rattle.text_names.specs.declared.table.Field.{Field}
use Rattle.text_shown.specs.Values.{is_wide, has_two_bytes, rounds, value_number}

-- the line of a row in a round
unfoldable pub value_line : Kind → Field → Bool → List ℕ → ℕ → ℕ → List ℕ
value_line kind f wide s round number =
    value_name kind f.over number round ++ (44 ∷ (shown (row_at kind number).measure (value_number kind f wide s round number) ++ (10 ∷ [])))

-- those of a round, row by row
unfoldable pub round_lines : Kind → Field → Bool → List ℕ → ℕ → List ℕ
round_lines kind f wide s round = each (value_line kind f wide s round) f.rows f.first

-- of n rounds from one on, whether each has a first value of at most one byte
unfoldable pub all_small : Kind → Field → Bool → List ℕ → ℕ → ℕ → Bool
all_small kind f wide s zero round = true
all_small kind f wide s (suc n) round = leb (value_number kind f wide s round f.first) 255 && all_small kind f wide s n (round + 1)

-- "It says the form where its values would have another": zone numbers that fit one byte have two.
unfoldable pub form_line : Kind → Field → Bool → List ℕ → List ℕ
form_line kind f wide s =
    cond (has_two_bytes wide f && all_small kind f wide s (rounds wide f s) 0) (codes "zone number bytes,2\n") []

unfoldable pub field_text : Kind → Bool → List ℕ → ℕ → List ℕ
field_text kind wide s number =
    let f = field_at kind number in
    field_notes kind f ++ (form_line kind f wide s ++ each (round_lines kind f wide s) (rounds wide f s) 0)

-- "# A rate book: a name and its value on each line." and what the file is
unfoldable pub head_text : Kind → List ℕ
head_text kind = codes "# A " ++ (kind_name kind ++ (codes ": a name and its value on each line.\nfile," ++ (kind_name kind ++ (10 ∷ []))))

unfoldable pub file_text : Kind → List ℕ → List ℕ
file_text kind s = head_text kind ++ each (field_text kind (is_wide kind s) s) (length (fields kind)) 0
