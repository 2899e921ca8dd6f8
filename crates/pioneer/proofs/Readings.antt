-- What a reading leaves of the ledger and the table, by its answer.
use Rattle.std.specs.Prelude.{ℕ, ◌≤◌, ◌≡◌, refl, List, ◌++◌, length, take, drop, Err, Ok}
use Rattle.std.proofs.Common.{sym, ap, ◌∙◌, arith, length-append, length-take-le}
use Rattle.tagged.proofs.Theorems.Impossible.{impossible}
use Rattle.tagged.specs.File.{fields_part, FileAnswer}
use Rattle.tagged.specs.declared.file.Refusal.{Refusal}
use Rattle.ledger.specs.Lists.{at_start}
use Rattle.ledger.specs.Records.{no_parties}
use Rattle.ledger.specs.SoundConditions.{SoundLedger}
use Rattle.ledger.proofs.Theorems.Sound.{sound_means}
use Rattle.ledger.specs.declared.records.Party.{Party}
use Rattle.ledger.specs.declared.records.Ledger.{Ledger}
use Rattle.stored.proofs.Theorems.Layout.{take_at_start}
use Rattle.stored.specs.Form.{stored_entries, stored_ledger}
use Rattle.stored.specs.declared.form.Form.TheVariants.{Pio2}
use Rattle.stored.specs.Reading.{read_answer, ReadBack, refused_read, read_by, read_back, ReadEnd, table_by, read_of}
use Rattle.stored.proofs.Theorems.StoredAccepted.{accepted_means}
use Rattle.stored.proofs.Theorems.ReadLedger.{entries_count}

abbrev pub ending : FileAnswer → Ledger → List Party → ReadEnd
ending answer ledger table = record { answer = answer; ledger = ledger; table = table }

module _ (ledger : Ledger) (table : List Party) (file : List ℕ) where
  abbrev s : List ℕ
  s = fields_part file

  -- a refused reading leaves both
  pub refused_end : (r : Refusal) (after : Ledger) → refused_read r after ≡ read_back Pio2 ledger (length table) file → read_of ledger table file ≡ ending (Err r) after table
  refused_end r after = by (read_answer Pio2 (length table) file)
    where
      by : (answer : FileAnswer) → refused_read r after ≡ read_by Pio2 answer ledger s → table_by answer ledger table s ≡ ending (Err r) after table
      by (Ok _) e = let told = ap (λ (b : ReadBack). b.answer) e in impossible cc
      by (Err q) e =
          let answers = ap (λ (b : ReadBack). b.answer) e in
          let ledgers = ap (λ (b : ReadBack). b.ledger) e in
          ap (λ answer. ending answer ledger table) (sym answers) ∙ ap (λ l. ending (Err r) l table) (sym ledgers)

  -- one that stands has room for its entries, and puts them into the first records
  pub record Reads (after : Ledger) (parties : List Party) : Type 0 where
    pub limit : after.entries ≤ length parties
    pub many : after.entries ≡ length (take after.entries parties)
    pub room : length (take after.entries parties) ≤ length table
    pub ends : read_of ledger table file ≡ ending (Ok tt) after (take after.entries parties ++ drop (length (take after.entries parties)) table)

  entries_stored : (n : ℕ) → n ≡ length (stored_entries Pio2 s) → take n (at_start (stored_entries Pio2 s) no_parties) ++ drop n table ≡ at_start (stored_entries Pio2 s) table
  entries_stored n e = rw e (ap (λ (entries : List Party). entries ++ drop (length (stored_entries Pio2 s)) table) (take_at_start (stored_entries Pio2 s) no_parties))

  pub standing_reads : (after : Ledger) (parties : List Party) →
      ◌≡◌ {A = ReadBack} (record { answer = Ok tt; ledger = after; parties = parties }) (read_back Pio2 ledger (length table) file) → Reads after parties
  standing_reads after parties e = by (read_answer Pio2 (length table) file) refl e
    where
      by : (answer : FileAnswer) → read_answer Pio2 (length table) file ≡ answer →
          ◌≡◌ {A = ReadBack} (record { answer = Ok tt; ledger = after; parties = parties }) (read_by Pio2 answer ledger s) → Reads after parties
      by (Ok _) stands back =
          let means : SoundLedger (stored_ledger Pio2 s) (stored_entries Pio2 s) (length table) =
          sound_means (stored_ledger Pio2 s) (stored_entries Pio2 s) (length table) (accepted_means Pio2 (length table) file stands).holds in
          let ledgers : after ≡ stored_ledger Pio2 s = ap (λ (b : ReadBack). b.ledger) back in
          let records : parties ≡ at_start (stored_entries Pio2 s) no_parties = ap (λ (b : ReadBack). b.parties) back in
          let entries : ℕ = (stored_ledger Pio2 s).entries in
          let first : List Party = at_start (stored_entries Pio2 s) no_parties in
          let limit : entries ≤ length first = omega (arith, entries_count Pio2 s, length-append (stored_entries Pio2 s) (drop (length (stored_entries Pio2 s)) no_parties)) in
          let many : length (take entries first) ≡ entries = length-take-le entries first limit in
          rw (ledgers, records)
          (record {
            limit = limit;
            many = sym many;
            room = omega (arith, means.figures.in_table);
            ends =
                ap (λ answer. table_by answer ledger table s) stands
                ∙ ap (ending (Ok tt) (stored_ledger Pio2 s)) (rw many (sym (entries_stored entries (entries_count Pio2 s))));
          })
      by (Err r) stands back = let told = ap (λ (b : ReadBack). b.answer) back in impossible cc
