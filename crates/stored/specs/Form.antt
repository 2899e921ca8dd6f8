-- The fields that a ledger and its entries are stored as, and what a stored form's fields hold: document 01, 'Stored form', and document 02, E9.
use Rattle.std.specs.Prelude.{ℕ, ◌+◌, ◌*◌, List, [], ◌∷◌, ◌++◌, map, length, take, replicate}
use Rattle.field_walk.specs.Walk.{FieldAt, value_of}
use Rattle.tagged.specs.Find.{fields_of, fields_with, field_value}
use Rattle.tagged.specs.Encoded.{closed}
use Rattle.ledger.specs.Limits.{most_schemes, most_entries}
use Rattle.ledger.specs.Lists.{at_start}
use Rattle.stored.specs.Numbered.{numbered_from}
use Rattle.ledger.specs.Records.{no_scheme}
use Rattle.ledger.specs.declared.records.Scheme.{Scheme}
use Rattle.ledger.specs.declared.records.Party.{Party}
use Rattle.ledger.specs.declared.records.Ledger.{Ledger}
use Rattle.stored.specs.StoredRows.{head_size, scheme_size, entry_size}
use Rattle.stored.specs.Layout.{record_bytes, record_values, number_first, number_in, past_number, head_widths, head_values, added_widths, added_values, added_last, added_in, ledger_from, scheme_widths, scheme_values, scheme_from, party_widths, party_values, party_from}
use Rattle.stored.specs.declared.form.Form.{Form}
use Rattle.stored.specs.declared.form.Form.TheVariants.{Pion, Pio2}

-- "01: PION."; document 02, E9: "a new form alone, which starts PIO2"
abbrev pub letters : Form → List ℕ
letters Pion = 80 ∷ 73 ∷ 79 ∷ 78 ∷ []
letters Pio2 = 80 ∷ 73 ∷ 79 ∷ 50 ∷ []

-- a field's tag and value
abbrev pub letters_part : Form → ℕ × List ℕ
letters_part form = (1, letters form)

abbrev pub head_part : Form → Ledger → ℕ × List ℕ
head_part form ledger = (2, record_bytes (added_last form head_widths added_widths) (added_last form (head_values ledger) (added_values ledger)))

abbrev pub scheme_part : Form → Scheme → ℕ × List ℕ
scheme_part form scheme = (3, record_bytes (number_first form 4 scheme_widths) (number_first form scheme.number (scheme_values scheme)))

abbrev pub party_part : Form → Party → ℕ × List ℕ
party_part form party = (4, record_bytes (number_first form 4 party_widths) (number_first form party.number (party_values party)))

unfoldable pub scheme_parts : Form → Ledger → List (ℕ × List ℕ)
scheme_parts form ledger = map (scheme_part form) (take ledger.count ledger.schemes)

-- the first entries of the table are the ledger's
unfoldable pub party_parts : Form → Ledger → List Party → List (ℕ × List ℕ)
party_parts form ledger parties = map (party_part form) (take ledger.entries parties)

abbrev pub stored_parts : Form → Ledger → List Party → List (ℕ × List ℕ)
stored_parts form ledger parties = letters_part form ∷ head_part form ledger ∷ scheme_parts form ledger ++ party_parts form ledger parties

-- the file of these fields
unfoldable pub stored_form : Form → Ledger → List Party → List ℕ
stored_form form ledger parties = closed (stored_parts form ledger parties)

-- ---- how many bytes it takes, each field with its tag and length

-- the letters and the head
abbrev pub header_length : Form → ℕ
header_length form = 10 + head_size form

abbrev pub scheme_length : Form → ℕ
scheme_length form = scheme_size form + 3

abbrev pub entry_length : Form → ℕ
entry_length form = entry_size form + 3

-- "The last field is FF, length 2: the check."
abbrev pub check_length : ℕ
check_length = 5

-- with no scheme and no entry
abbrev pub shortest_form : Form → ℕ
shortest_form form = header_length form + check_length

-- with so many schemes and entries
abbrev pub form_length : Form → ℕ → ℕ → ℕ
form_length form count entries = shortest_form form + scheme_length form * count + entry_length form * entries

-- with as many of both as a ledger holds
abbrev pub longest_form : Form → ℕ
longest_form form = form_length form most_schemes most_entries

-- ---- what the fields of a file hold
abbrev pub scheme_of_bytes : Form → ℕ → List ℕ → Scheme
scheme_of_bytes form place value = scheme_from (number_in form place value) (record_values scheme_widths (past_number form value))

abbrev pub party_of_bytes : Form → ℕ → List ℕ → Party
party_of_bytes form place value = party_from (number_in form place value) (record_values party_widths (past_number form value))

-- what is read of the values of those fields that have this tag, in file order, each with its place from `place` on
abbrev pub each_with : {A : Type 0} → (ℕ → List ℕ → A) → ℕ → ℕ → List ℕ → List FieldAt → List A
each_with read place tag s fs = numbered_from place (λ k f. read k (value_of s f)) (fields_with tag fs)

unfoldable pub stored_schemes : Form → List ℕ → List Scheme
stored_schemes form s = each_with (scheme_of_bytes form) 1 3 s (fields_of s)

unfoldable pub stored_entries : Form → List ℕ → List Party
stored_entries form s = each_with (party_of_bytes form) 1 4 s (fields_of s)

-- "places past the last scheme hold zeros"
unfoldable pub no_schemes : List Scheme
no_schemes = replicate most_schemes no_scheme

unfoldable pub stored_ledger : Form → List ℕ → Ledger
stored_ledger form s =
    let head = field_value 2 s in
    let count = length (stored_schemes form s) in
    let entries = length (stored_entries form s) in
    ledger_from (record_values head_widths head) (added_in form count entries head) entries count (at_start (stored_schemes form s) no_schemes)
