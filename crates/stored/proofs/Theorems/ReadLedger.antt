-- What a reading comes to: its answer, and a table as long as before; a ledger that is read has 64 places and is sound with its table.
use Rattle.std.specs.Prelude.{ℕ, ◌≡◌, refl, List, true, length, Err, Ok}
use Rattle.std.proofs.Common.{sym, ap, ◌∙◌, arith}
use Rattle.std.proofs.lemmas.List.{length-replicate}
use Rattle.tagged.specs.File.{fields_part, FileAnswer}
use Rattle.tagged.specs.declared.file.Refusal.{Refusal}
use Rattle.ledger.specs.Limits.{most_schemes}
use Rattle.ledger.specs.Lists.{at_start}
use Rattle.ledger.specs.Records.{no_scheme}
use Rattle.ledger.specs.Sound.{sound}
use Rattle.ledger.specs.declared.records.Party.{Party}
use Rattle.ledger.specs.declared.records.Ledger.{Ledger}
use Rattle.stored.proofs.Theorems.Layout.{length_at_start}
use Rattle.stored.specs.Form.{stored_schemes, stored_entries, no_schemes, stored_ledger}
use Rattle.stored.proofs.Theorems.StoredFields.{few_schemes}
use Rattle.stored.specs.Reading.{read_answer, table_by, read_of}
use Rattle.stored.proofs.Theorems.Reading.{sound_placed}
use Rattle.stored.specs.StoredAccepted.{FormFound, StoredAccepted}
use Rattle.stored.specs.declared.form.Form.{Form}
use Rattle.stored.specs.declared.form.Form.TheVariants.{Pio2}
use Rattle.stored.proofs.Theorems.StoredAccepted.{accepted_means}

pub entries_count : (form : Form) (s : List ℕ) → (stored_ledger form s).entries ≡ length (stored_entries form s)
unfolding stored_ledger
entries_count form s = refl

-- a ledger that was read has 64 places for schemes
pub stored_places : (form : Form) (file : List ℕ) → FormFound form file → length (stored_ledger form (fields_part file)).schemes ≡ most_schemes
unfolding stored_ledger no_schemes
stored_places form file found =
    let s = fields_part file in
    let few = few_schemes form s (found.stands.field_list, found.stands.walks) in
    let places = length-replicate most_schemes no_scheme in
    length_at_start (stored_schemes form s) no_schemes (omega (arith, few, places)) ∙ places

module _ (ledger : Ledger) (table : List Party) (file : List ℕ) where
  abbrev s : List ℕ
  s = fields_part file

  pub read_answer_lem : (read_of ledger table file).answer ≡ read_answer Pio2 (length table) file
  read_answer_lem = by_answer (read_answer Pio2 (length table) file)
    where
      by_answer : (answer : FileAnswer) → (table_by answer ledger table s).answer ≡ answer
      by_answer (Ok _) = refl
      by_answer (Err r) = refl

  module _ (stands : (read_of ledger table file).answer ≡ Ok tt) where
    pub read_accepted : StoredAccepted Pio2 (length table) file
    read_accepted = accepted_means Pio2 (length table) file (sym read_answer_lem ∙ stands)

    pub read_stands : read_of ledger table file ≡ record { answer = Ok tt; ledger = stored_ledger Pio2 s; table = at_start (stored_entries Pio2 s) table }
    read_stands = ap (λ answer. table_by answer ledger table s) (sym read_answer_lem ∙ stands)

  -- by the answer, with what it says of the file
  by_read : (P : FileAnswer → Type 0) → (StoredAccepted Pio2 (length table) file → P (Ok tt)) → ((r : Refusal) → P (Err r)) → P (read_answer Pio2 (length table) file)
  by_read P stood refused = by_answer (read_answer Pio2 (length table) file) refl
    where
      by_answer : (answer : FileAnswer) → read_answer Pio2 (length table) file ≡ answer → P answer
      by_answer (Ok _) e = stood (accepted_means Pio2 (length table) file e)
      by_answer (Err r) e = refused r

  table_placed : StoredAccepted Pio2 (length table) file → length (table_by (Ok tt) ledger table s).table ≡ length table
  table_placed accepted = length_at_start (stored_entries Pio2 s) table accepted.fits

  pub read_length : length (read_of ledger table file).table ≡ length table
  read_length = by_read (λ answer. length (table_by answer ledger table s).table ≡ length table) table_placed (λ r. refl)

  pub read_places : length ledger.schemes ≡ most_schemes → length (read_of ledger table file).ledger.schemes ≡ most_schemes
  read_places places = by_read (λ answer. length (table_by answer ledger table s).ledger.schemes ≡ most_schemes) (λ accepted. stored_places Pio2 file accepted.found) (λ r. places)

  pub read_sound : (read_of ledger table file).answer ≡ Ok tt →
      sound (read_of ledger table file).ledger (read_of ledger table file).table (length (read_of ledger table file).table) ≡ true
  read_sound stands =
      let accepted = read_accepted stands in
      ap (λ end. sound end.ledger end.table (length end.table)) (read_stands stands)
      ∙ ap (sound (stored_ledger Pio2 s) (table_by (Ok tt) ledger table s).table) (table_placed accepted)
      ∙ sound_placed Pio2 s table (length table)
      ∙ accepted.holds
