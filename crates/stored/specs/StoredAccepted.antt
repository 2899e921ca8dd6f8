-- A stored ledger that reading accepts: its bytes are the form of the ledger and the entries that are read.
use Rattle.std.specs.Prelude.{ℕ, ◌≤◌, ◌≡◌, List, true, length}
use Rattle.tagged.specs.Find.{field_value}
use Rattle.tagged.specs.File.{fields_part}
use Rattle.tagged.specs.FileStands.{FileStands}
use Rattle.stored.specs.StoredRows.{stored_rows}
use Rattle.stored.specs.Form.{letters, stored_entries, stored_ledger}
use Rattle.stored.specs.Reading.{form_sound}
use Rattle.stored.specs.declared.form.Form.{Form}

-- ---- what 1, 2, 1 and 3 asked for, and then reading
pub record FormFound (form : Form) (file : List ℕ) : Type 0 where
  pub stands : FileStands (stored_rows form) file
  pub lettered : field_value 1 (fields_part file) ≡ letters form

pub record StoredAccepted (form : Form) (room : ℕ) (file : List ℕ) : Type 0 where
  pub found : FormFound form file
  pub fits : length (stored_entries form (fields_part file)) ≤ room
  pub holds : form_sound form (stored_ledger form (fields_part file)) (stored_entries form (fields_part file)) room ≡ true
