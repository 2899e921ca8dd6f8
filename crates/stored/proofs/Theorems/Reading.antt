-- The cases of reading, in document 01's order; what a refused one changes, and its numbers.
use Rattle.std.specs.Prelude.{ℕ, ◌<◌, ◌≤◌, ◌≡◌, refl, List, Bool, true, false, cond, length, leb, Err, Ok}
use Rattle.std.proofs.Math.Path.{ap, ap₂}
use Rattle.std.proofs.Common.{le_refl, take_all, le-leb}
use Rattle.std.proofs.lemmas.Bool.{lt-leb}
use Rattle.tagged.proofs.Theorems.Impossible.{impossible}
use Rattle.tagged.specs.File.{file_answer, fields_part, refusal, FileAnswer}
use Rattle.tagged.proofs.Theorems.File.{RefusesTo, file_refusal_numbers}
use Rattle.tagged.specs.Refusals.{check_differs, value_not_listed, no_entry_left, ledger_unsound}
use Rattle.tagged.specs.declared.file.Refusal.{Refusal}
use Rattle.field_values.specs.Judged.{judge_letters, Judged}
use Rattle.ledger.specs.Lists.{at_start}
use Rattle.ledger.specs.Sound.{sound_figures, sound}
use Rattle.ledger.specs.NumberLists.{Among}
use Rattle.ledger.specs.RefusalNumbers.{one_of, one_to}
use Rattle.ledger.proofs.Theorems.RefusalNumbers.{one_of_more, within_one_to}
use Rattle.ledger.specs.declared.records.Party.{Party}
use Rattle.ledger.specs.declared.records.Ledger.{Ledger}
use Rattle.stored.specs.StoredRows.{stored_rows}
use Rattle.stored.proofs.Theorems.Layout.{take_at_start}
use Rattle.stored.specs.Form.{letters, stored_entries, stored_ledger}
use Rattle.stored.specs.Reading.{in_turn, letters_answer, form_of_file, form_sound, table_answer, read_answer, table_by, read_of}
use Rattle.stored.specs.StoredNumbers.{reading_numbers}
use Rattle.stored.specs.RefusedWith.{FileRefuses, ReadRefuses}
use Rattle.stored.specs.declared.form.Form.{Form}
use Rattle.stored.specs.declared.form.Form.TheVariants.{Pion, Pio2}

-- entries in the first places of any table are as sound as they are alone
pub sound_placed : (form : Form) (s : List ℕ) (others : List Party) (room : ℕ) →
    form_sound form (stored_ledger form s) (at_start (stored_entries form s) others) room ≡ form_sound form (stored_ledger form s) (stored_entries form s) room
unfolding sound sound_figures stored_ledger
sound_placed Pion s others room = rw (take_at_start (stored_entries Pion s) others, take_all (length (stored_entries Pion s)) (stored_entries Pion s) (le_refl _))
sound_placed Pio2 s others room = rw (take_at_start (stored_entries Pio2 s) others, take_all (length (stored_entries Pio2 s)) (stored_entries Pio2 s) (le_refl _))

module _ (form : Form) (room : ℕ) (s : List ℕ) where
  pub read_refused_9 : room < length (stored_entries form s) → table_answer form room s ≡ Err (refusal no_entry_left 0 0)
  unfolding table_answer
  read_refused_9 short = rw (lt-leb _ _ short)

  pub read_refused_13 : length (stored_entries form s) ≤ room → form_sound form (stored_ledger form s) (stored_entries form s) room ≡ false →
      table_answer form room s ≡ Err (refusal ledger_unsound 0 0)
  unfolding table_answer
  read_refused_13 fits unsound = rw (le-leb _ _ fits, unsound)

  pub read_done : length (stored_entries form s) ≤ room → form_sound form (stored_ledger form s) (stored_entries form s) room ≡ true →
      table_answer form room s ≡ Ok tt
  unfolding table_answer
  read_done fits holds = rw (le-leb _ _ fits, holds)

-- a file that stands in a form, with its letters
pub form_found : (form : Form) (file : List ℕ) → file_answer (stored_rows form) 1 file ≡ Ok tt → judge_letters (letters form) (fields_part file) ≡ Ok tt →
    form_of_file form file ≡ Ok tt
form_found form file stands lettered = ap₂ (λ first judged. in_turn first (letters_answer judged)) stands lettered

module _ (form : Form) (room : ℕ) (file : List ℕ) where
  pub read_found : form_of_file form file ≡ Ok tt → read_answer form room file ≡ table_answer form room (fields_part file)
  unfolding read_answer
  read_found e = ap (λ first. in_turn first (table_answer form room (fields_part file))) e

  -- the letters are judged before the table and soundness
  pub read_refused_3 : (at : ℕ) → file_answer (stored_rows form) 1 file ≡ Ok tt → judge_letters (letters form) (fields_part file) ≡ Err at →
      read_answer form room file ≡ Err (refusal value_not_listed 1 at)
  unfolding read_answer
  read_refused_3 at stands judged = ap₂ (λ first letters. in_turn (in_turn first (letters_answer letters)) (table_answer form room (fields_part file))) stands judged

-- a refused read leaves the ledger and the table as they were
pub refused_read_changes_nothing : (ledger : Ledger) (table : List Party) (file : List ℕ) (r : Refusal) →
    (read_of ledger table file).answer ≡ Err r → ((read_of ledger table file).ledger ≡ ledger) × ((read_of ledger table file).table ≡ table)
refused_read_changes_nothing ledger table file r e = by_answer (read_answer Pio2 (length table) file) e
  where
    by_answer : (answer : FileAnswer) → (table_by answer ledger table (fields_part file)).answer ≡ Err r →
        ((table_by answer ledger table (fields_part file)).ledger ≡ ledger) × ((table_by answer ledger table (fields_part file)).table ≡ table)
    by_answer (Ok _) e = impossible cc
    by_answer (Err other) e = (refl, refl)

-- ---- the numbers of its refusals
module _ (numbers : List ℕ) where
  pub in_turn_refuses : (first second : FileAnswer) → FileRefuses numbers first → (first ≡ Ok tt → FileRefuses numbers second) → FileRefuses numbers (in_turn first second)
  in_turn_refuses (Ok _) second h later = later refl
  in_turn_refuses (Err r) second h later = h

  file_refuses : Among (one_to check_differs) numbers → (answer : FileAnswer) → RefusesTo check_differs 1 answer → FileRefuses numbers answer
  file_refuses among (Ok _) h = tt
  file_refuses among (Err r) h = one_of_more (one_to check_differs) numbers r.number among (within_one_to check_differs r.number h.0 h.1)

  letters_refuse : one_of numbers value_not_listed ≡ true → (judged : Judged) → FileRefuses numbers (letters_answer judged)
  letters_refuse listed (Ok _) = tt
  letters_refuse listed (Err at) = listed

  pub form_refuses : Among (one_to check_differs) numbers → one_of numbers value_not_listed ≡ true → (form : Form) (file : List ℕ) →
      FileRefuses numbers (form_of_file form file)
  form_refuses among listed form file =
      let judged = judge_letters (letters form) (fields_part file) in
      in_turn_refuses (file_answer (stored_rows form) 1 file) (letters_answer judged)
      (file_refuses among (file_answer (stored_rows form) 1 file) (file_refusal_numbers (stored_rows form) 1 file)) (λ stands. letters_refuse listed judged)

pub read_refusal_numbers : (form : Form) (room : ℕ) (file : List ℕ) → ReadRefuses (read_answer form room file)
unfolding read_answer table_answer
read_refusal_numbers form room file =
    let s = fields_part file in
    in_turn_refuses reading_numbers (form_of_file form file) (table_answer form room s) (form_refuses reading_numbers refl refl form file)
    (λ stands. by (leb (length (stored_entries form s)) room) (form_sound form (stored_ledger form s) (stored_entries form s) room))
  where
    by : (fits holds : Bool) → ReadRefuses (cond fits (cond holds (Ok tt) (Err (refusal ledger_unsound 0 0))) (Err (refusal no_entry_left 0 0)))
    by true true = tt
    by true false = refl
    by false holds = refl
