-- The fields of the stored forms, each with tag; lowest, highest and step of length; least and most times; the form, 0 for both. A stored ledger has one form.
use Rattle.std.specs.Prelude.{ℕ, List, [], ◌∷◌}
use Rattle.ledger.specs.Limits.{most_schemes, most_entries}
use Rattle.stored.specs.declared.form.Form.{Form}
use Rattle.stored.specs.declared.form.Form.TheVariants.{Pion, Pio2}

-- how many bytes the values of field 02, of a field 03 and of a field 04 have: document 01, 'Stored form', and document 02, E9
abbrev pub head_size : Form → ℕ
head_size Pion = 22
head_size Pio2 = 54

abbrev pub scheme_size : Form → ℕ
scheme_size Pion = 24
scheme_size Pio2 = 28

abbrev pub entry_size : Form → ℕ
entry_size Pion = 30
entry_size Pio2 = 34

abbrev pub stored_rows : Form → List (List ℕ)
stored_rows form =
    (1 ∷ 4 ∷ 4 ∷ 1 ∷ 1 ∷ 1 ∷ 0 ∷ []) ∷
    (2 ∷ head_size form ∷ head_size form ∷ 1 ∷ 1 ∷ 1 ∷ 0 ∷ []) ∷
    (3 ∷ scheme_size form ∷ scheme_size form ∷ 1 ∷ 0 ∷ most_schemes ∷ 0 ∷ []) ∷
    (4 ∷ entry_size form ∷ entry_size form ∷ 1 ∷ 0 ∷ most_entries ∷ 0 ∷ []) ∷
    []
