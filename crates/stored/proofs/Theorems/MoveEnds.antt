-- How the moves end: their numbers, what a refused one changes, and what they promise.
use Rattle.std.specs.Prelude.{ℕ, ◌≤◌, ◌≡◌, refl, List, Bool, true, false, cond, length, Err, Ok}
use Rattle.std.proofs.Common.{sym, ap, subst, le-leb}
use Rattle.tagged.specs.EndingTests.{number_is_0}
use Rattle.tagged.specs.File.{fields_part, refusal, FileAnswer}
use Rattle.tagged.specs.Refusals.{check_differs, value_not_listed, ledger_unsound, output_too_short, numbers_not_counts}
use Rattle.tagged.specs.declared.file.Refusal.{Refusal}
use Rattle.ledger.specs.Limits.{most_entries}
use Rattle.ledger.specs.NumberLists.{Among}
use Rattle.ledger.specs.RefusalNumbers.{one_of, one_to}
use Rattle.ledger.specs.Sound.{all_hold}
use Rattle.ledger.specs.declared.records.Party.{Party}
use Rattle.ledger.specs.declared.records.Ledger.{Ledger}
use Rattle.stored.specs.Form.{stored_form, stored_entries, stored_ledger}
use Rattle.stored.specs.Writing.{Written, output_by}
use Rattle.stored.specs.FormOutput.{form_end}
use Rattle.stored.specs.Reading.{form_of_file, form_sound, table_answer, read_answer}
use Rattle.stored.specs.Moves.{numbers_are_counts, numbers_answer, old_file_answer, new_file_answer, moved_by, move_to_new, move_back}
use Rattle.stored.specs.RefusedWith.{FileRefuses, RefusesWith, moving_numbers, moving_back_numbers}
use Rattle.stored.specs.StoredEnding.{written_ending, is_written}
use Rattle.stored.specs.Promises.{WriteNumbered, WritePromised}
use Rattle.stored.proofs.Theorems.StoredFields.{few_entries}
use Rattle.stored.proofs.Theorems.StoredAccepted.{found_means}
use Rattle.stored.proofs.Theorems.Reading.{in_turn_refuses, form_refuses}
use Rattle.stored.proofs.Theorems.Writing.{form_refuses_14}
use Rattle.stored.proofs.Theorems.StoredEnding.{written_by_ending, written_by_number, refuses_numbered}
use Rattle.stored.specs.declared.form.Form.{Form}
use Rattle.stored.specs.declared.form.Form.TheVariants.{Pion, Pio2}

-- ---- their numbers: never 9, since no file has more entries than a table of 512 records
module _ (numbers : List ℕ) (unsound : one_of numbers ledger_unsound ≡ true) where
  table_refuses : (form : Form) (s : List ℕ) → length (stored_entries form s) ≤ most_entries → FileRefuses numbers (table_answer form most_entries s)
  unfolding table_answer
  table_refuses form s few =
      rw (le-leb (length (stored_entries form s)) most_entries few) (by (form_sound form (stored_ledger form s) (stored_entries form s) most_entries))
    where
      by : (holds : Bool) → FileRefuses numbers (cond holds (Ok tt) (Err (refusal ledger_unsound 0 0)))
      by true = tt
      by false = unsound

  read_refuses : Among (one_to check_differs) numbers → one_of numbers value_not_listed ≡ true → (form : Form) (file : List ℕ) →
      FileRefuses numbers (read_answer form most_entries file)
  unfolding read_answer
  read_refuses among listed form file =
      let s = fields_part file in
      in_turn_refuses numbers (form_of_file form file) (table_answer form most_entries s) (form_refuses numbers among listed form file)
      (λ stands.
      let found = (found_means form file stands).stands in
      table_refuses form s (few_entries form s (found.field_list, found.walks)))

moved_refuses : (numbers : List ℕ) → one_of numbers output_too_short ≡ true → (answer : FileAnswer) → FileRefuses numbers answer →
    (form : Form) (ledger : Ledger) (parties : List Party) (out : List ℕ) → RefusesWith numbers (moved_by answer (form_end form ledger parties out) out).answer
moved_refuses numbers short (Ok _) told form ledger parties out = form_refuses_14 form ledger parties out numbers short
moved_refuses numbers short (Err r) told form ledger parties out = told

numbers_refuse : (ledger : Ledger) → FileRefuses moving_back_numbers (numbers_answer ledger)
numbers_refuse ledger = by (all_hold (numbers_are_counts ledger))
  where
    by : (holds : Bool) → FileRefuses moving_back_numbers (cond holds (Ok tt) (Err (refusal numbers_not_counts 0 0)))
    by true = tt
    by false = refl

module _ (file out : List ℕ) where
  pub move_refusal_numbers : RefusesWith moving_numbers (move_to_new file out).answer
  move_refusal_numbers =
      moved_refuses moving_numbers refl (old_file_answer file) (read_refuses moving_numbers refl refl refl Pion file) Pio2
      (stored_ledger Pion (fields_part file)) (stored_entries Pion (fields_part file)) out

  pub move_back_refusal_numbers : RefusesWith moving_back_numbers (move_back file out).answer
  move_back_refusal_numbers =
      let ledger = stored_ledger Pio2 (fields_part file) in
      moved_refuses moving_back_numbers refl (new_file_answer file)
      (in_turn_refuses moving_back_numbers (read_answer Pio2 most_entries file) (numbers_answer ledger) (read_refuses moving_back_numbers refl refl refl Pio2 file) (λ stands. numbers_refuse ledger))
      Pion ledger (stored_entries Pio2 (fields_part file)) out

  move_numbered : WriteNumbered (move_to_new file out).answer
  move_numbered = refuses_numbered moving_numbers refl (move_to_new file out).answer move_refusal_numbers

  move_back_numbered : WriteNumbered (move_back file out).answer
  move_back_numbered = refuses_numbered moving_back_numbers refl (move_back file out).answer move_back_refusal_numbers

  pub move_by_number : number_is_0 (written_ending (move_to_new file out).answer) ≡ is_written (move_to_new file out).answer
  move_by_number = written_by_number (move_to_new file out).answer move_numbered

  pub move_back_by_number : number_is_0 (written_ending (move_back file out).answer) ≡ is_written (move_back file out).answer
  move_back_by_number = written_by_number (move_back file out).answer move_back_numbered

  -- a refused move leaves the output as it was
  refused_keeps : (answer : FileAnswer) (form : Form) (ledger : Ledger) (parties : List Party) (r : Refusal) →
      (moved_by answer (form_end form ledger parties out) out).answer ≡ Err r → (moved_by answer (form_end form ledger parties out) out).output ≡ out
  refused_keeps (Ok _) form ledger parties r e = ap (λ one. output_by one (stored_form form ledger parties) out) e
  refused_keeps (Err other) form ledger parties r e = refl

  pub refused_move_changes_nothing : (r : Refusal) → (move_to_new file out).answer ≡ Err r → (move_to_new file out).output ≡ out
  refused_move_changes_nothing r e =
      refused_keeps (old_file_answer file) Pio2 (stored_ledger Pion (fields_part file)) (stored_entries Pion (fields_part file)) r e

  pub refused_move_back_changes_nothing : (r : Refusal) → (move_back file out).answer ≡ Err r → (move_back file out).output ≡ out
  refused_move_back_changes_nothing r e =
      refused_keeps (new_file_answer file) Pion (stored_ledger Pio2 (fields_part file)) (stored_entries Pio2 (fields_part file)) r e

  -- ---- what they promise, and that it tells their answers
  module _ {answer : Written} {output : List ℕ} where
    pub move_promise : answer ≡ (move_to_new file out).answer → output ≡ (move_to_new file out).output → WritePromised (move_to_new file out) answer output
    move_promise answers outputs =
        record { numbered = subst WriteNumbered (sym answers) move_numbered; ends = ap written_ending answers; output_after = outputs }

    pub move_back_promise : answer ≡ (move_back file out).answer → output ≡ (move_back file out).output → WritePromised (move_back file out) answer output
    move_back_promise answers outputs =
        record { numbered = subst WriteNumbered (sym answers) move_back_numbered; ends = ap written_ending answers; output_after = outputs }

  pub promised_move : (answer : Written) (output : List ℕ) → WritePromised (move_to_new file out) answer output → answer ≡ (move_to_new file out).answer
  promised_move answer output promise = written_by_ending answer (move_to_new file out).answer promise.numbered move_numbered promise.ends

  pub promised_move_back : (answer : Written) (output : List ℕ) → WritePromised (move_back file out) answer output → answer ≡ (move_back file out).answer
  promised_move_back answer output promise = written_by_ending answer (move_back file out).answer promise.numbered move_back_numbered promise.ends
