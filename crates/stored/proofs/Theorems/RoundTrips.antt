-- Demand 2: "A written ledger reads back as itself, and an accepted stored ledger writes back as the same bytes."
use Rattle.std.specs.Prelude.{ℕ, ◌+◌, ◌-◌, ◌≤◌, ◌≡◌, List, ◌++◌, true, get_or, take, drop, replicate, leb, Err, Ok}
use Rattle.std.proofs.Common.{sym, ap₂, ◌∙◌, ⊎_elim, arith, length-drop, take-append-drop, take-take, get_or-drop, ext_get_or, leb-true, leb-false}
use Rattle.std.proofs.Math.Path.{ap}
use mathlib.Mathlib.Data.Bool.Basic.{dichotomy}
use Rattle.std.proofs.Math.ListN.{length}
use Rattle.std.proofs.lemmas.List.{length-replicate, get_or-replicate}
use Rattle.std.proofs.Math.Seq.{length-take-le}
use Rattle.tagged.proofs.Theorems.Impossible.{impossible}
use Rattle.numbers.specs.BigEndian.{Bytes}
use Rattle.tagged.specs.Find.{field_start, field_value}
use Rattle.tagged.specs.Encoded.{encoded_parts}
use Rattle.tagged.specs.declared.file.Refusal.{Refusal}
use Rattle.field_values.specs.Judged.{judge, judge_letters, same_bytes}
use Rattle.field_values.proofs.Theorems.Judged.{same_bytes_refl}
use Rattle.ledger.specs.Limits.{most_schemes}
use Rattle.ledger.specs.Lists.{at_start}
use Rattle.ledger.specs.Records.{no_scheme}
use Rattle.ledger.specs.Sound.{sound}
use Rattle.ledger.specs.SoundConditions.{SoundFigures}
use Rattle.ledger.proofs.Theorems.Sound.{sound_means}
use Rattle.ledger.proofs.Theorems.SameEntries.{sound_in}
use Rattle.ledger.specs.declared.records.Scheme.{Scheme}
use Rattle.ledger.specs.declared.records.Party.{Party}
use Rattle.ledger.specs.declared.records.Ledger.{Ledger}
use Rattle.ledger.specs.Limits.{most_entries}
use Rattle.stored.specs.Layout.{record_values, head_widths, head_values, added_values, added_in, ledger_from}
use Rattle.stored.proofs.Theorems.Layout.{take_at_start}
use Rattle.stored.specs.Form.{letters, stored_parts, stored_form, stored_schemes, stored_entries, no_schemes, stored_ledger}
use Rattle.stored.specs.FormFields.{FormFits}
use Rattle.stored.proofs.Theorems.FormFields.{Held, fields_of_form, letters_of_form, head_of_form, head_back, added_back, form_stands, schemes_of_form, schemes_held, entries_of_form, parties_held}
use Rattle.stored.specs.Writing.{written_answer, write_of}
use Rattle.stored.proofs.Theorems.Writing.{write_refused_13, write_refused_14, write_done, output_done}
use Rattle.stored.proofs.Theorems.SameForm.{same_form}
use Rattle.stored.specs.Reading.{form_of_file, table_answer, read_answer, table_by, read_of}
use Rattle.stored.proofs.Theorems.Reading.{form_found, read_done, read_found}
use Rattle.stored.proofs.Theorems.StoredAccepted.{form_of_found}
use Rattle.stored.proofs.Theorems.ReadLedger.{read_accepted, read_stands, read_sound}
use Rattle.stored.specs.declared.form.Form.{Form}
use Rattle.stored.specs.declared.form.Form.TheVariants.{Pio2}

-- ---- what was written

-- a refusal is no length
refused_no_length : {A : Type 0} {r : Refusal} {size : ℕ} → Err r ≡ Ok size → A
refused_no_length e = impossible cc

-- a write that answers a length was of a sound ledger, and the length is the form's
module _ (ledger : Ledger) (parties : List Party) (room : ℕ) (out : List ℕ) (size : ℕ)
    (written : written_answer ledger parties room out ≡ Ok size) where
  pub written_sound : sound ledger parties room ≡ true
  written_sound =
      ⊎_elim
      (λ unsound. refused_no_length (sym (write_refused_13 ledger parties room out unsound) ∙ written))
      (λ holds. holds)
      (dichotomy (sound ledger parties room))

  written_size : length (stored_form Pio2 ledger parties) ≡ size
  written_size =
      ⊎_elim
      (λ short. refused_no_length (sym (write_refused_14 ledger parties room out written_sound (leb-false _ _ short)) ∙ written))
      (λ long. let done = write_done ledger parties room out written_sound (leb-true _ _ long) in cc)
      (dichotomy (leb (length (stored_form Pio2 ledger parties)) (length out)))

-- the places past the last scheme hold zeros
zeros_after : (size count : ℕ) (schemes : List Scheme) → length schemes ≡ size → ((i : ℕ) → count ≤ i → get_or schemes i no_scheme ≡ no_scheme) →
    drop count (replicate size no_scheme) ≡ drop count schemes
zeros_after size count schemes long zeros =
    let many : length (drop count (replicate size no_scheme)) ≡ size - count = simp (length-drop, length-replicate) in
    ext_get_or no_scheme (drop count (replicate size no_scheme)) (drop count schemes) (rw (many, length-drop, long))
    (λ i below.
    rw (get_or-drop count (replicate size no_scheme) i no_scheme, get_or-drop count schemes i no_scheme, zeros (count + i) (omega arith))
    (get_or-replicate size (count + i) no_scheme no_scheme (omega arith)))

zeros_placed : (count : ℕ) (schemes : List Scheme) → length schemes ≡ most_schemes → count ≤ most_schemes → ((i : ℕ) → count ≤ i → get_or schemes i no_scheme ≡ no_scheme) →
    at_start (take count schemes) no_schemes ≡ schemes
unfolding no_schemes
zeros_placed count schemes places few zeros =
    let size : length (take count schemes) ≡ count = length-take-le count schemes (omega arith) in
    ap (λ n. take count schemes ++ drop n (replicate most_schemes no_scheme)) size
    ∙ ap (λ l. take count schemes ++ l) (zeros_after most_schemes count schemes places zeros)
    ∙ take-append-drop count schemes

-- a form that can hold a ledger and its entries, and is found of its bytes
module _ (form : Form) (ledger : Ledger) (parties : List Party) (handed : FormFits ledger parties) (held : Held form ledger parties)
    (count : ledger.count ≤ most_schemes) (entries : ledger.entries ≤ most_entries) (in_table : ledger.entries ≤ length parties)
    (rest_zero : (i : ℕ) → ledger.count ≤ i → get_or ledger.schemes i no_scheme ≡ no_scheme) where
  abbrev s : List ℕ
  s = encoded_parts (stored_parts form ledger parties)

  pub entries_back : stored_entries form s ≡ take ledger.entries parties
  entries_back = entries_of_form form ledger parties count entries handed ∙ parties_held ledger parties form held

  pub entries_counted : length (stored_entries form s) ≡ ledger.entries
  entries_counted = ap length entries_back ∙ length-take-le ledger.entries parties in_table

  -- the ledger that its form holds is itself
  pub ledger_back : stored_ledger form s ≡ ledger
  unfolding stored_ledger
  ledger_back =
      let head = head_of_form form ledger parties count entries in
      let schemes = schemes_of_form form ledger parties count entries handed ∙ schemes_held ledger parties form held in
      let counted = ap length schemes ∙ length-take-le ledger.count ledger.schemes (omega (arith, count, handed.places)) in
      let values : record_values head_widths (field_value 2 s) ≡ head_values ledger =
      ap (record_values head_widths) head ∙ head_back ledger parties handed.head_fits form in
      let added : added_in form (length (stored_schemes form s)) (length (stored_entries form s)) (field_value 2 s) ≡ added_values ledger =
      (λ i. added_in form (counted i) (entries_counted i) (head i)) ∙ added_back ledger parties handed.head_fits form held in
      let places = ap (λ l. at_start l no_schemes) schemes ∙ zeros_placed ledger.count ledger.schemes handed.places count rest_zero in
      λ i. ledger_from (values i) (added i) (entries_counted i) (counted i) (places i)

  pub form_is_found : form_of_file form (stored_form form ledger parties) ≡ Ok tt
  form_is_found =
      let lettered : judge_letters (letters form) s ≡ (Ok tt) =
      ap (λ value. judge (same_bytes value (letters form)) (field_start 1 s)) (letters_of_form form ledger parties count entries)
      ∙ ap (λ same. judge same (field_start 1 s)) (same_bytes_refl (letters form)) in
      form_found form (stored_form form ledger parties) (form_stands form ledger parties count entries)
      (ap (judge_letters (letters form)) (fields_of_form form ledger parties) ∙ lettered)

module _ (ledger : Ledger) (parties : List Party) (handed : FormFits ledger parties) (holds : sound ledger parties (length parties) ≡ true) where
  facts : SoundFigures ledger parties (length parties)
  facts = (sound_means ledger parties (length parties) holds).figures

  back_ledger : stored_ledger Pio2 (encoded_parts (stored_parts Pio2 ledger parties)) ≡ ledger
  back_ledger = ledger_back Pio2 ledger parties handed tt facts.schemes facts.entries facts.in_table facts.rest_zero

  back_entries : stored_entries Pio2 (encoded_parts (stored_parts Pio2 ledger parties)) ≡ take ledger.entries parties
  back_entries = entries_back Pio2 ledger parties handed tt facts.schemes facts.entries facts.in_table facts.rest_zero

  pub form_accepted : (room : ℕ) → ledger.entries ≤ room → read_answer Pio2 room (stored_form Pio2 ledger parties) ≡ Ok tt
  form_accepted room fits =
      let s = encoded_parts (stored_parts Pio2 ledger parties) in
      let kept = take-take ledger.entries ledger.entries parties (omega arith) in
      let as_sound : sound (stored_ledger Pio2 s) (stored_entries Pio2 s) room ≡ true =
      ap₂ (λ l p. sound l p room) back_ledger back_entries
      ∙ sound_in ledger parties (take ledger.entries parties) (length parties) room kept fits holds in
      let counted = entries_counted Pio2 ledger parties handed tt facts.schemes facts.entries facts.in_table facts.rest_zero in
      read_found Pio2 room (stored_form Pio2 ledger parties) (form_is_found Pio2 ledger parties handed tt facts.schemes facts.entries facts.in_table facts.rest_zero)
      ∙ ap (table_answer Pio2 room) (fields_of_form Pio2 ledger parties)
      ∙ read_done Pio2 room s (omega (arith, counted)) as_sound

  -- The form of a sound ledger reads back as the ledger and its entries.
  pub read_of_form : (before : Ledger) (other : List Party) → ledger.entries ≤ length other →
      read_of before other (stored_form Pio2 ledger parties) ≡
      record { answer = Ok tt; ledger = ledger; table = at_start (take ledger.entries parties) other }
  read_of_form before other fits =
      ap₂ (λ answer s. table_by answer before other s) (form_accepted (length other) fits) (fields_of_form Pio2 ledger parties)
      ∙ (λ i. record { answer = Ok tt; ledger = back_ledger i; table = at_start (back_entries i) other })

-- What was written reads back into any table that has room for the entries, whatever ledger there was before.
pub read_of_write : (ledger before : Ledger) (table other : List Party) (out : List ℕ) (size : ℕ) → FormFits ledger table →
    (write_of ledger table out).answer ≡ Ok size → ledger.entries ≤ length other →
    read_of before other (take size (write_of ledger table out).output) ≡
    record { answer = Ok tt; ledger = ledger; table = at_start (take ledger.entries table) other }
read_of_write ledger before table other out size handed written fits =
    let form = stored_form Pio2 ledger table in
    let holds = written_sound ledger table (length table) out size written in
    let file : take size (write_of ledger table out).output ≡ form =
    ap₂ take (sym (written_size ledger table (length table) out size written)) (output_done ledger table (length table) out written)
    ∙ take_at_start form out in
    ap (read_of before other) file ∙ read_of_form ledger table handed holds before other fits

-- ---- what was read
module _ (before : Ledger) (table : List Party) (file : List ℕ) (bytes : Bytes file) (stands : (read_of before table file).answer ≡ Ok tt) where
  -- the form of what was read is the file
  form_of_read : stored_form Pio2 (read_of before table file).ledger (read_of before table file).table ≡ file
  form_of_read =
      ap (λ end. stored_form Pio2 end.ledger end.table) (read_stands before table file stands)
      ∙ form_of_found Pio2 file table bytes (read_accepted before table file stands).found

-- A file that was read writes back as itself, with any output that has room for it.
pub write_of_read : (before : Ledger) (table : List Party) (file out : List ℕ) → Bytes file →
    (read_of before table file).answer ≡ Ok tt → length file ≤ length out →
    write_of (read_of before table file).ledger (read_of before table file).table out ≡ record { answer = Ok (length file); output = at_start file out }
write_of_read before table file out bytes stands fits =
    let end = read_of before table file in
    let form = form_of_read before table file bytes stands in
    let room : length (stored_form Pio2 end.ledger end.table) ≤ length out = omega (arith, ap length form) in
    let done = write_done end.ledger end.table (length end.table) out (read_sound before table file stands) room in
    let output = output_done end.ledger end.table (length end.table) out done ∙ ap (λ bytes. at_start bytes out) form in
    λ i. record { answer = (done ∙ ap (λ bytes. Ok (length bytes)) form) i; output = output i }

-- So no two files are the same ledger: accepted files that read as one ledger with the same entries, whatever ledgers and tables there were before,
-- are the same bytes.
pub stored_ledgers_differ : (before before' : Ledger) (table table' : List Party) (file file' : List ℕ) → Bytes file → Bytes file' →
    (read_of before table file).answer ≡ Ok tt → (read_of before' table' file').answer ≡ Ok tt →
    (read_of before table file).ledger ≡ (read_of before' table' file').ledger →
    take (read_of before table file).ledger.entries (read_of before table file).table ≡
    take (read_of before' table' file').ledger.entries (read_of before' table' file').table →
    file ≡ file'
stored_ledgers_differ before before' table table' file file' bytes bytes' stands stands' ledgers entries =
    sym (form_of_read before table file bytes stands)
    ∙ same_form Pio2 (read_of before table file).table (read_of before' table' file').table ledgers entries
    ∙ form_of_read before' table' file' bytes' stands'
