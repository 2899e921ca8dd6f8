-- What reading accepts is the form of the ledger and the entries that are read.
use Rattle.std.specs.Prelude.{ℕ, suc, ◌-◌, ◌≤◌, ◌≡◌, refl, true, length, drop, leb, Err, Ok}
use Rattle.std.proofs.Math.Path.{sym, ap, ap₂, subst}
use Rattle.std.proofs.Common.{◌∙◌, ⊎_elim, arith, length-take, length-drop}
use mathlib.Core.List.Memᴰ
use mathlib.Core.List.{List, [], ◌∷◌, ◌++◌, map, map-append, Memᴰ}
use Rattle.std.proofs.Math.Bool.{false}
use mathlib.Mathlib.Data.Bool.Basic.{dichotomy}
use Rattle.std.proofs.Math.Dec.{eqb}
use borrow.Author.Tests.{leb-true, leb-false, eq-eqb, ne_eqb}
use Rattle.tagged.proofs.Theorems.Impossible.{impossible}
use Rattle.numbers.specs.BigEndian.{Bytes}
use Rattle.numbers.proofs.Theorems.BigEndian.{Bytes-take, Bytes-drop}
use Rattle.field_walk.specs.Walk.{FieldAt, value_of}
use Rattle.field_walk.specs.FieldsWalk.{FieldsWalk}
use Rattle.tagged.specs.Find.{place_at, fields_of, first_with, first_place, part_of, field_start, field_value}
use Rattle.tagged.specs.File.{file_answer, fields_part, FileAnswer}
use Rattle.tagged.proofs.Theorems.File.{stands_means}
use Rattle.tagged.proofs.Theorems.Walk.{walk_fields}
use Rattle.tagged.specs.Encoded.{closed}
use Rattle.tagged.specs.WalkEncoded.{parts_of}
use Rattle.tagged.proofs.Theorems.FoundFields.{walk_inside, walk_fields_of, Bytes-part}
use Rattle.tagged.proofs.Theorems.ClosedFiles.{stands_closed}
use Rattle.tagged.specs.declared.file.Refusal.{Refusal}
use Rattle.field_values.specs.Judged.{judge_letters, same_bytes, Judged}
use Rattle.field_values.proofs.Theorems.Judged.{judge_passes, same_bytes_equal}
use Rattle.ledger.specs.Lists.{at_start}
use Rattle.ledger.specs.declared.records.Party.{Party}
use Rattle.stored.specs.Numbered.{numbered_from}
use Rattle.ledger.specs.declared.records.Scheme.{Scheme}
use Rattle.stored.specs.StoredRows.{head_size, scheme_size, entry_size, stored_rows}
use Rattle.stored.specs.Layout.{record_values, values_at, head_widths, added_widths, added_in, ledger_from, scheme_widths, party_widths}
use Rattle.stored.proofs.Theorems.Layout.{record_of_values, numbered_record, take_at_start}
use Rattle.stored.specs.Form.{letters, letters_part, head_part, scheme_part, party_part, scheme_parts, party_parts, stored_parts, stored_form, scheme_of_bytes, party_of_bytes, stored_schemes, stored_entries, no_schemes, stored_ledger}
use Rattle.stored.proofs.Theorems.Form.{scheme_sum, entry_sum}
use Rattle.stored.proofs.Theorems.StoredFields.{StoredFields, stored_fields, schemes_with, parties_with, schemes_sized, entries_sized, head_found}
use Rattle.stored.specs.Reading.{in_turn, letters_answer, form_of_file, form_sound, table_answer, read_answer}
use Rattle.stored.proofs.Theorems.Reading.{read_refused_9, read_refused_13}
use Rattle.stored.specs.StoredAccepted.{FormFound, StoredAccepted}
use Rattle.stored.specs.declared.form.Form.{Form}
use Rattle.stored.specs.declared.form.Form.TheVariants.{Pion, Pio2}

-- a refusal is another answer
refused_not_stands : {A : Type 0} {r : Refusal} → ◌≡◌ {A = FileAnswer} (Err r) (Ok tt) → A
refused_not_stands e = impossible cc

pub in_turn_stands : (first second : FileAnswer) → in_turn first second ≡ Ok tt → (first ≡ Ok tt) × (second ≡ Ok tt)
in_turn_stands (Ok _) second e = (refl, e)
in_turn_stands (Err r) second e = refused_not_stands e

letters_pass : (judged : Judged) → letters_answer judged ≡ Ok tt → judged ≡ Ok tt
letters_pass (Ok _) e = refl
letters_pass (Err at) e = refused_not_stands e

module _ (form : Form) (room : ℕ) (s : List ℕ) (stands : table_answer form room s ≡ Ok tt) where
  table_fits : length (stored_entries form s) ≤ room
  table_fits =
      ⊎_elim
      (λ long. refused_not_stands (sym (read_refused_9 form room s (leb-false _ _ long)) ∙ stands))
      (leb-true _ _)
      (dichotomy (leb (length (stored_entries form s)) room))

  table_holds : form_sound form (stored_ledger form s) (stored_entries form s) room ≡ true
  table_holds =
      ⊎_elim
      (λ unsound. refused_not_stands (sym (read_refused_13 form room s table_fits unsound) ∙ stands))
      (λ holds. holds)
      (dichotomy (form_sound form (stored_ledger form s) (stored_entries form s) room))

-- a file that is found to be of a form
pub found_means : (form : Form) (file : List ℕ) → form_of_file form file ≡ Ok tt → FormFound form file
found_means form file e =
    let s = fields_part file in
    let turns = in_turn_stands (file_answer (stored_rows form) 1 file) (letters_answer (judge_letters (letters form) s)) e in
    let same = judge_passes (same_bytes (field_value 1 s) (letters form)) (field_start 1 s) (letters_pass (judge_letters (letters form) s) turns.1) in
    record { stands = stands_means (stored_rows form) 1 file turns.0; lettered = same_bytes_equal (field_value 1 s) (letters form) same }

pub accepted_means : (form : Form) (room : ℕ) (file : List ℕ) → read_answer form room file ≡ Ok tt → StoredAccepted form room file
unfolding read_answer
accepted_means form room file e =
    let s = fields_part file in
    let turns = in_turn_stands (form_of_file form file) (table_answer form room s) e in
    record { found = found_means form file turns.0; fits = table_fits form room s turns.1; holds = table_holds form room s turns.1 }

-- ---- its fields' parts

-- the parts of fields are those of what is read of them
parts_back : {A : Type 0} (read : ℕ → List ℕ → A) (part : A → ℕ × List ℕ) (s : List ℕ) (place : ℕ) (fs : List FieldAt) →
    ((k : ℕ) (f : FieldAt) → Memᴰ f fs → part (read k (value_of s f)) ≡ (f.tag, value_of s f)) →
    parts_of s fs ≡ map part (numbered_from place (λ k f. read k (value_of s f)) fs)
parts_back read part s place [] back = refl
parts_back read part s place (f ∷ fs) back =
    ap₂ ◌∷◌ (sym (back place f (Memᴰ.head refl))) (parts_back read part s (suc place) fs (λ k g among. back k g (Memᴰ.tail among)))

-- a value of a record's length is the record's bytes
module _ (form : Form) (place : ℕ) (value : List ℕ) (bytes : Bytes value) where
  scheme_part_of : length value ≡ scheme_size form → scheme_part form (scheme_of_bytes form place value) ≡ (3, value)
  unfolding values_at
  scheme_part_of long = ap (λ v. (3, v)) (numbered_record form scheme_widths value place bytes (long ∙ scheme_sum form))

  party_part_of : length value ≡ entry_size form → party_part form (party_of_bytes form place value) ≡ (4, value)
  unfolding values_at
  party_part_of long = ap (λ v. (4, v)) (numbered_record form party_widths value place bytes (long ∙ entry_sum form))

-- and the head's, where it is read with so many entries and schemes
head_part_of : (form : Form) (value : List ℕ) (entries count : ℕ) (schemes : List Scheme) → Bytes value → length value ≡ head_size form →
    head_part form (ledger_from (record_values head_widths value) (added_in form count entries value) entries count schemes) ≡ (2, value)
unfolding values_at
head_part_of Pion value entries count schemes bytes long = ap (λ v. (2, v)) (record_of_values head_widths value bytes long)
head_part_of Pio2 value entries count schemes bytes long = ap (λ v. (2, v)) (record_of_values (head_widths ++ added_widths) value bytes long)

pub value_bytes : (s : List ℕ) → Bytes s → (f : FieldAt) → Bytes (value_of s f)
value_bytes s bytes f = Bytes-take f.len (drop f.start s) (Bytes-drop f.start s bytes)

module _ (form : Form) (s : List ℕ) (bytes : Bytes s) (walks : FieldsWalk (stored_rows form) s) where
  pub length_value : (f : FieldAt) → Memᴰ f (fields_of s) → length (value_of s f) ≡ f.len
  length_value f among =
      let inside = walk_inside (stored_rows form) s walks.0 walks.1 f (subst (Memᴰ f) (walk_fields_of (stored_rows form) s walks.0 walks.1) among) in
      simp (length-take, length-drop) (omega (arith, inside.1.within))

  stored : StoredFields form (fields_of s)
  stored = stored_fields form s walks

  letters_part_lem : ◌≡◌ {A = ℕ × List ℕ} (stored.letters.tag, value_of s stored.letters) (1, field_value 1 s)
  unfolding first_with
  letters_part_lem =
      let later = stored.head ∷ stored.schemes ++ stored.parties in
      let here : first_with 1 (stored.letters ∷ later) ≡ place_at stored.letters.start stored.letters.len =
      rw (eq-eqb _ _ stored.of_letters.tag) in
      let value : field_value 1 s ≡ value_of s stored.letters = ap (λ place. part_of place s) (ap (first_with 1) stored.are ∙ here) in
      ap₂ (λ tag value. (tag, value)) stored.of_letters.tag (sym value)

  head_part_lem : ◌≡◌ {A = ℕ × List ℕ} (stored.head.tag, value_of s stored.head) (2, field_value 2 s)
  unfolding first_with
  head_part_lem =
      let past : eqb stored.letters.tag 2 ≡ false = ne_eqb stored.letters.tag 2 (λ e. omega (arith, stored.of_letters.tag)) in
      let later = stored.schemes ++ stored.parties in
      let here : first_with 2 (stored.letters ∷ stored.head ∷ later) ≡ place_at stored.head.start stored.head.len =
      rw (past, eq-eqb _ _ stored.of_head.tag) in
      let value : field_value 2 s ≡ value_of s stored.head = ap (λ place. part_of place s) (ap (first_with 2) stored.are ∙ here) in
      ap₂ (λ tag value. (tag, value)) stored.of_head.tag (sym value)

  schemes_parts : parts_of s stored.schemes ≡ map (scheme_part form) (stored_schemes form s)
  unfolding stored_schemes
  schemes_parts =
      parts_back (scheme_of_bytes form) (scheme_part form) s 1 stored.schemes
      (λ k f mine.
      let tag = (stored.of_schemes f mine).tag in
      let among = subst (Memᴰ f) (sym stored.are) (Memᴰ.tail (Memᴰ.tail (Memᴰ.append_left stored.parties mine))) in
      scheme_part_of form k (value_of s f) (value_bytes s bytes f) (length_value f among ∙ schemes_sized form s walks f among tag) ∙ ap (λ t. (t, value_of s f)) (sym tag))
      ∙ ap (λ fs. map (scheme_part form) (numbered_from 1 (λ k f. scheme_of_bytes form k (value_of s f)) fs)) (sym (schemes_with stored))

  parties_parts : parts_of s stored.parties ≡ map (party_part form) (stored_entries form s)
  unfolding stored_entries
  parties_parts =
      parts_back (party_of_bytes form) (party_part form) s 1 stored.parties
      (λ k f mine.
      let tag = (stored.of_parties f mine).tag in
      let among = subst (Memᴰ f) (sym stored.are) (Memᴰ.tail (Memᴰ.tail (Memᴰ.append_right stored.schemes mine))) in
      party_part_of form k (value_of s f) (value_bytes s bytes f) (length_value f among ∙ entries_sized form s walks f among tag) ∙ ap (λ t. (t, value_of s f)) (sym tag))
      ∙ ap (λ fs. map (party_part form) (numbered_from 1 (λ k f. party_of_bytes form k (value_of s f)) fs)) (sym (parties_with stored))

  -- the letters, the head, the schemes and the entries
  pub parts_of_walk : parts_of s (fields_of s) ≡
      (1, field_value 1 s) ∷ head_part form (stored_ledger form s) ∷ map (scheme_part form) (stored_schemes form s) ++ map (party_part form) (stored_entries form s)
  unfolding stored_ledger
  parts_of_walk =
      let count = length (stored_schemes form s) in
      let entries = length (stored_entries form s) in
      let head = head_part_of form (field_value 2 s) entries count (at_start (stored_schemes form s) no_schemes) (Bytes-part (first_place 2 s) s bytes) (head_found form s walks) in
      ap (parts_of s) stored.are
      ∙ ap₂ ◌∷◌ letters_part_lem
      (ap₂ ◌∷◌ (head_part_lem ∙ sym head) (map-append (λ f. (f.tag, value_of s f)) stored.schemes stored.parties ∙ ap₂ ◌++◌ schemes_parts parties_parts))

-- ---- its bytes

-- The ledger and the entries that are read, stored again, are the file.
pub form_of_found : (form : Form) (file : List ℕ) (others : List Party) → Bytes file → FormFound form file →
    stored_form form (stored_ledger form (fields_part file)) (at_start (stored_entries form (fields_part file)) others) ≡ file
unfolding stored_form scheme_parts party_parts stored_ledger
form_of_found form file others bytes found =
    let s = fields_part file in
    let stands = found.stands in
    let fs = stands.field_list in
    let walks : FieldsWalk (stored_rows form) s = (fs, stands.walks) in
    let walked = parts_of_walk form s (Bytes-take (length file - 5) file bytes) walks in
    let front : List (ℕ × List ℕ) → List (ℕ × List ℕ) = λ l. letters_part form ∷ head_part form (stored_ledger form s) ∷ l in
    let parts : stored_parts form (stored_ledger form s) (at_start (stored_entries form s) others) ≡
    front (map (scheme_part form) (stored_schemes form s) ++ map (party_part form) (stored_entries form s)) =
    ap₂ (λ schemes parties. front (map (scheme_part form) schemes ++ map (party_part form) parties)) (take_at_start (stored_schemes form s) no_schemes)
    (take_at_start (stored_entries form s) others) in
    ap closed
    (parts
    ∙ ap (λ letters. (1, letters) ∷ head_part form (stored_ledger form s) ∷ map (scheme_part form) (stored_schemes form s) ++ map (party_part form) (stored_entries form s)) (sym found.lettered)
    ∙ sym walked
    ∙ ap (parts_of s) (walk_fields_of (stored_rows form) s fs stands.walks))
    ∙ sym (stands_closed file bytes stands (walk_fields (stored_rows form) s fs stands.walks))
