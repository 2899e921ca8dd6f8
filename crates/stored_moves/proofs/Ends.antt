-- Reading a form into a new ledger and empty records, and writing the other form of them, ends as the move does.
use Rattle.std.specs.Prelude.{ℕ, ◌≤◌, ◌≡◌, refl, List, true, cond, length, leb, MatchResult, Err, Ok}
use Rattle.std.proofs.Common.{sym, ap, ap₂, ◌∙◌, arith, take_all, le_refl}
use Rattle.std.proofs.lemmas.List.{length-replicate}
use Rattle.tagged.specs.File.{fields_part, refusal, FileAnswer}
use Rattle.tagged.specs.Refusals.{output_too_short, numbers_not_counts}
use Rattle.tagged.specs.declared.file.Refusal.{Refusal}
use Rattle.field_walk.specs.FieldsWalk.{FieldsWalk}
use Rattle.ledger.specs.Sound.{all_hold}
use Rattle.ledger.specs.Limits.{most_schemes, most_entries}
use Rattle.ledger.specs.Lists.{at_start}
use Rattle.ledger.specs.Records.{no_party, no_parties, new_ledger}
use Rattle.ledger.specs.declared.records.Party.{Party}
use Rattle.ledger.specs.declared.records.Ledger.{Ledger}
use Rattle.stored.specs.Form.{stored_form, stored_entries, stored_ledger}
use Rattle.stored.specs.FormOutput.{form_end}
use Rattle.stored.specs.Reading.{in_turn, ReadBack, read_answer, read_by, of_reading}
use Rattle.stored.specs.Moves.{numbers_are_counts, numbers_answer, moved_by, move_to_new, move_back}
use Rattle.stored.specs.StoredRows.{stored_rows}
use Rattle.stored.specs.Writing.{WriteEnd, output_by}
use Rattle.stored.proofs.Theorems.Layout.{take_at_start, length_at_start}
use Rattle.stored.proofs.Theorems.SameForm.{same_form}
use Rattle.stored.proofs.Theorems.StoredAccepted.{accepted_means}
use Rattle.stored.proofs.Theorems.StoredFields.{few_schemes, few_entries}
use Rattle.stored.specs.declared.form.Form.{Form}
use Rattle.stored.specs.declared.form.Form.TheVariants.{Pion, Pio2}

-- writing ends by the form's bytes alone
abbrev end_of : List ℕ → List ℕ → WriteEnd
end_of out bytes =
    let answer = cond (leb (length bytes) (length out)) (Ok (length bytes)) (Err (refusal output_too_short 0 0)) in
    record { answer = answer; output = output_by answer bytes out }

-- what reading a file leaves in a ledger and an array of records
abbrev pub Read : Form → List ℕ → Ledger → List Party → Type 0
Read form file ledger parties =
    (read_answer form most_entries file ≡ Ok tt)
    × (ledger ≡ stored_ledger form (fields_part file))
    × (parties ≡ at_start (stored_entries form (fields_part file)) no_parties)

module _ (form : Form) (file : List ℕ) where
  abbrev s : List ℕ
  s = fields_part file

  -- what is read, by the answer
  pub reads : (answer : FileAnswer) (ledger : Ledger) (parties : List Party) →
      of_reading answer ledger parties ≡ read_by form (read_answer form most_entries file) new_ledger s →
      MatchResult answer
      (λ _. Read form file ledger parties)
      (λ refusal. read_answer form most_entries file ≡ Err refusal)
  reads answer ledger parties e = by answer (read_answer form most_entries file) e
    where
      by : (answer comes : FileAnswer) → of_reading answer ledger parties ≡ read_by form comes new_ledger s →
          MatchResult answer
          (λ _. (comes ≡ Ok tt) × (ledger ≡ stored_ledger form s) × (parties ≡ at_start (stored_entries form s) no_parties))
          (λ refusal. comes ≡ Err refusal)
      by (Ok _) (Ok _) e = (refl, ap (λ (read : ReadBack). read.ledger) e, ap (λ (read : ReadBack). read.parties) e)
      by (Ok _) (Err r) e = let apart = ap (λ (read : ReadBack). read.answer) e in cc
      by (Err r) (Ok _) e = let apart = ap (λ (read : ReadBack). read.answer) e in cc
      by (Err r) (Err other) e = sym (ap (λ (read : ReadBack). read.answer) e)

  -- of a ledger and entries that were read
  module _ {ledger : Ledger} {parties : List Party} (read : Read form file ledger parties) where
    -- neither schemes nor entries are too many
    pub counts : (ledger.count ≤ most_schemes) × (ledger.entries ≤ most_entries) × (ledger.entries ≤ length parties)
    unfolding stored_ledger no_parties
    counts =
        let found = (accepted_means form most_entries file read.0).found.stands in
        let walks : FieldsWalk (stored_rows form) s = (found.field_list, found.walks) in
        let schemes = few_schemes form s walks in
        let entries = few_entries form s walks in
        let long = length_at_start (stored_entries form s) no_parties (omega (arith, entries, length-replicate most_entries no_party)) in (
          omega (arith, schemes, ap (λ (one : Ledger). one.count) read.1),
          omega (arith, entries, ap (λ (one : Ledger). one.entries) read.1),
          omega (arith, entries, ap (λ (one : Ledger). one.entries) read.1, ap length read.2, long, length-replicate most_entries no_party),
        )

    -- a form is of the entries alone, and not of the records past them
    pub same_end : (other : Form) (out : List ℕ) → form_end other ledger parties out ≡ form_end other (stored_ledger form s) (stored_entries form s) out
    unfolding stored_ledger
    same_end other out =
        let entries = stored_entries form s in
        let form_is : stored_form other (stored_ledger form s) (at_start entries no_parties) ≡ stored_form other (stored_ledger form s) entries =
        same_form other (at_start entries no_parties) entries refl
        (take_at_start entries no_parties ∙ sym (take_all (length entries) entries (le_refl _))) in
        ap₂ (λ ledger parties. form_end other ledger parties out) read.1 read.2 ∙ ap (end_of out) form_is

-- ---- the moves
module _ (file out : List ℕ) where
  module _ {r : Refusal} where
    pub to_new_refused : read_answer Pion most_entries file ≡ Err r → move_to_new file out ≡ record { answer = Err r; output = out }
    to_new_refused e = ap (λ answer. moved_by answer (form_end Pio2 (stored_ledger Pion (fields_part file)) (stored_entries Pion (fields_part file)) out) out) e

    pub back_refused : read_answer Pio2 most_entries file ≡ Err r → move_back file out ≡ record { answer = Err r; output = out }
    back_refused e =
        let ledger = stored_ledger Pio2 (fields_part file) in
        ap (λ answer. moved_by (in_turn answer (numbers_answer ledger)) (form_end Pion ledger (stored_entries Pio2 (fields_part file)) out) out) e

  module _ {ledger : Ledger} {parties : List Party} where
    pub to_new_ends : Read Pion file ledger parties → move_to_new file out ≡ form_end Pio2 ledger parties out
    to_new_ends read =
        ap (λ answer. moved_by answer (form_end Pio2 (stored_ledger Pion (fields_part file)) (stored_entries Pion (fields_part file)) out) out) read.0
        ∙ sym (same_end Pion file read Pio2 out)

    pub back_ends : Read Pio2 file ledger parties → all_hold (numbers_are_counts ledger) ≡ true → move_back file out ≡ form_end Pion ledger parties out
    back_ends read e =
        let counts = ap (λ (one : Ledger). all_hold (numbers_are_counts one)) (sym read.1) ∙ e in
        ap₂ (λ answer end. moved_by answer end out)
        (ap₂ (λ first holds. in_turn first (cond holds (Ok tt) (Err (refusal numbers_not_counts 0 0)))) read.0 counts)
        (sym (same_end Pio2 file read Pion out))
