-- Document 02, E9: "One call moves an old file to the new form. Another moves back where both next numbers are the counts plus one. Both take file and output,
-- no table." Both answer the form's length, and leave output past it alone.
use Rattle.std.specs.Prelude.{ℕ, ◌+◌, List, [], ◌∷◌, Bool, cond, eqb, Err, Ok}
use Rattle.tagged.specs.File.{fields_part, refusal, FileAnswer}
use Rattle.tagged.specs.Refusals.{numbers_not_counts}
use Rattle.ledger.specs.Limits.{most_entries}
use Rattle.ledger.specs.Sound.{all_hold}
use Rattle.ledger.specs.declared.records.Ledger.{Ledger}
use Rattle.stored.specs.Form.{stored_entries, stored_ledger}
use Rattle.stored.specs.Reading.{in_turn, read_answer}
use Rattle.stored.specs.Writing.{WriteEnd}
use Rattle.stored.specs.FormOutput.{form_end}
use Rattle.stored.specs.declared.form.Form.TheVariants.{Pion, Pio2}

-- both next numbers are the counts plus one
abbrev pub numbers_are_counts : Ledger → List Bool
numbers_are_counts ledger = eqb ledger.next_scheme (ledger.count + 1) ∷ eqb ledger.next_entry (ledger.entries + 1) ∷ []

-- "(16: moving back where a next number isn't its count plus one, after 13 and before 14.)"
abbrev pub numbers_answer : Ledger → FileAnswer
numbers_answer ledger = cond (all_hold (numbers_are_counts ledger)) (Ok tt) (Err (refusal numbers_not_counts 0 0))

-- of an old file: 1, 2, 1, 3, 13; of a new one that is moved back: 1, 2, 1, 3, 13, 16. Neither has more entries than a table of 512 records.
abbrev pub old_file_answer : List ℕ → FileAnswer
old_file_answer file = read_answer Pion most_entries file

abbrev pub new_file_answer : List ℕ → FileAnswer
new_file_answer file = in_turn (read_answer Pio2 most_entries file) (numbers_answer (stored_ledger Pio2 (fields_part file)))

-- what was written, where nothing was refused before
abbrev pub moved_by : FileAnswer → WriteEnd → List ℕ → WriteEnd
moved_by (Ok _) written out = written
moved_by (Err r) written out = record { answer = Err r; output = out }

abbrev pub move_to_new : List ℕ → List ℕ → WriteEnd
move_to_new file out =
    let s = fields_part file in
    moved_by (old_file_answer file) (form_end Pio2 (stored_ledger Pion s) (stored_entries Pion s) out) out

abbrev pub move_back : List ℕ → List ℕ → WriteEnd
move_back file out =
    let s = fields_part file in
    moved_by (new_file_answer file) (form_end Pion (stored_ledger Pio2 s) (stored_entries Pio2 s) out) out
