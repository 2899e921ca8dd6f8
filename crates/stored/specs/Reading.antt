-- Document 01, 'How calls end': "Reading: file order, 9 where the table is too short, 13." In a stored ledger 3 is for "only the letters". Document 02, E9:
-- "Reading and writing take a new form alone, which starts PIO2."
use Rattle.std.specs.Prelude.{ℕ, List, Bool, cond, length, leb, Err, Ok}
use Rattle.tagged.specs.File.{file_answer, fields_part, refusal, FileAnswer}
use Rattle.tagged.specs.Refusals.{value_not_listed, no_entry_left, ledger_unsound}
use Rattle.tagged.specs.declared.file.Refusal.{Refusal}
use Rattle.field_values.specs.Judged.{judge_letters, Judged}
use Rattle.ledger.specs.Limits.{most_entries}
use Rattle.ledger.specs.Lists.{at_start}
use Rattle.ledger.specs.Records.{no_parties}
use Rattle.ledger.specs.Sound.{sound_figures, sound}
use Rattle.ledger.specs.declared.records.Party.{Party}
use Rattle.ledger.specs.declared.records.Ledger.{Ledger}
use Rattle.stored.specs.StoredRows.{stored_rows}
use Rattle.stored.specs.Form.{letters, stored_entries, stored_ledger}
use Rattle.stored.specs.declared.form.Form.{Form}
use Rattle.stored.specs.declared.form.Form.TheVariants.{Pion, Pio2}

-- of two answers in turn, the first refusal
abbrev pub in_turn : FileAnswer → FileAnswer → FileAnswer
in_turn (Ok _) later = later
in_turn (Err r) later = Err r

-- 3 for the letters, at the value's first byte
abbrev pub letters_answer : Judged → FileAnswer
letters_answer (Ok _) = Ok tt
letters_answer (Err at) = Err (refusal value_not_listed 1 at)

-- 1, 2, 1 and 3 of a file in a form; a file read alone has number 1
abbrev pub form_of_file : Form → List ℕ → FileAnswer
form_of_file form file = in_turn (file_answer (stored_rows form) 1 file) (letters_answer (judge_letters (letters form) (fields_part file)))

-- 13, by a table of so many records: document 01's form has no numbers to judge, and is only read where no table is lent
abbrev pub form_sound : Form → Ledger → List Party → ℕ → Bool
form_sound Pion ledger parties room = sound_figures ledger parties most_entries
form_sound Pio2 ledger parties room = sound ledger parties room

-- 9 and 13, by the fields of a file and the table's length
unfoldable pub table_answer : Form → ℕ → List ℕ → FileAnswer
table_answer form room s =
    cond (leb (length (stored_entries form s)) room)
    (cond (form_sound form (stored_ledger form s) (stored_entries form s) room) (Ok tt) (Err (refusal ledger_unsound 0 0)))
    (Err (refusal no_entry_left 0 0))

-- 1, 2, 1, 3, 9, 13
unfoldable pub read_answer : Form → ℕ → List ℕ → FileAnswer
read_answer form room file = in_turn (form_of_file form file) (table_answer form room (fields_part file))

-- The answer, the ledger after it, and the entries.
pub record ReadBack : Type 0 where
  pub answer : FileAnswer
  pub ledger : Ledger
  pub parties : List Party

-- a refused reading leaves the ledger that it was given, and has no entries
abbrev pub refused_read : Refusal → Ledger → ReadBack
refused_read r ledger = record { answer = Err r; ledger = ledger; parties = no_parties }

-- by the answer: the ledger and the entries of these fields, or the refusal
abbrev pub read_by : Form → FileAnswer → Ledger → List ℕ → ReadBack
read_by form (Ok _) ledger s = record { answer = Ok tt; ledger = stored_ledger form s; parties = at_start (stored_entries form s) no_parties }
read_by form (Err r) ledger s = refused_read r ledger

abbrev pub read_back : Form → Ledger → ℕ → List ℕ → ReadBack
read_back form ledger room file = read_by form (read_answer form room file) ledger (fields_part file)

-- of the answer, and the ledger and the entries after it
abbrev pub of_reading : FileAnswer → Ledger → List Party → ReadBack
of_reading (Ok _) ledger parties = record { answer = Ok tt; ledger = ledger; parties = parties }
of_reading (Err r) ledger parties = refused_read r ledger

-- The call, which takes the new form alone, with a table of any length: the entries go to its first places, and the records past them are left alone.
pub record ReadEnd : Type 0 where
  pub answer : FileAnswer
  pub ledger : Ledger
  pub table : List Party

abbrev pub table_by : FileAnswer → Ledger → List Party → List ℕ → ReadEnd
table_by (Ok _) ledger table s = record { answer = Ok tt; ledger = stored_ledger Pio2 s; table = at_start (stored_entries Pio2 s) table }
table_by (Err r) ledger table s = record { answer = Err r; ledger = ledger; table = table }

abbrev pub read_of : Ledger → List Party → List ℕ → ReadEnd
read_of ledger table file = table_by (read_answer Pio2 (length table) file) ledger table (fields_part file)
