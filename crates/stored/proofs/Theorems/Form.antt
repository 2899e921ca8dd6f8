-- Lengths of a stored form and of its parts.
use Rattle.std.specs.Prelude.{ℕ, ◌+◌, ◌*◌, ◌≤◌, ◌≡◌, refl}
use mathlib.Core.List.{List, [], ◌∷◌, ◌++◌, flat_map, map}
use Rattle.std.proofs.Common.{ap, ◌∙◌, arith, length-append}
use Rattle.std.proofs.Math.ListN.{length, take}
use Rattle.std.proofs.Math.Seq.{length-take-le}
use Rattle.numbers.proofs.Theorems.BigEndian.{length_bytes_of}
use Rattle.tagged.specs.Encoded.{encoded_parts}
use Rattle.tagged.proofs.Theorems.FoundFields.{encoded_parts_append}
use Rattle.ledger.specs.declared.records.Scheme.{Scheme}
use Rattle.ledger.specs.declared.records.Party.{Party}
use Rattle.ledger.specs.declared.records.Ledger.{Ledger}
use Rattle.stored.specs.Form.{form_length, letters_part, head_part, scheme_part, party_part, scheme_parts, party_parts, stored_parts, stored_form, header_length, scheme_length, entry_length, check_length}
use Rattle.stored.specs.StoredRows.{head_size, scheme_size, entry_size}
use Rattle.ledger.specs.CapacityColumns.{sum_of}
use Rattle.stored.specs.Layout.{number_first, head_widths, head_values, added_widths, added_values, scheme_widths, scheme_values, party_widths, party_values}
use Rattle.stored.specs.declared.form.Form.{Form}
use Rattle.stored.specs.declared.form.Form.TheVariants.{Pion, Pio2}
use Rattle.stored.proofs.Theorems.Layout.{length_record_bytes}

pub length_one : (part : ℕ × List ℕ) → length (encoded_parts (part ∷ [])) ≡ length part.1 + 3
unfolding flat_map
length_one part = simp (length-append, length_bytes_of) (omega arith)

pub length_encoded_parts : (parts others : List (ℕ × List ℕ)) → length (encoded_parts (parts ++ others)) ≡ length (encoded_parts parts) + length (encoded_parts others)
length_encoded_parts parts others = rw (encoded_parts_append, length-append)

-- fields with values of one size
pub length_each : {A : Type 0} (part : A → ℕ × List ℕ) (size : ℕ) → ((x : A) → length (part x).1 ≡ size) → (xs : List A) →
    length (encoded_parts (map part xs)) ≡ (size + 3) * length xs
unfolding flat_map
length_each part size sized [] = omega arith
length_each part size sized (x ∷ xs) =
    simp (length-append, length_bytes_of) (omega (arith, sized x, length_each part size sized xs))

pub scheme_sized : (form : Form) (scheme : Scheme) → length (scheme_part form scheme).1 ≡ scheme_size form
scheme_sized Pion scheme = length_record_bytes scheme_widths (scheme_values scheme) refl
scheme_sized Pio2 scheme = length_record_bytes (4 ∷ scheme_widths) (scheme.number ∷ scheme_values scheme) refl

pub entry_sized : (form : Form) (party : Party) → length (party_part form party).1 ≡ entry_size form
entry_sized Pion party = length_record_bytes party_widths (party_values party) refl
entry_sized Pio2 party = length_record_bytes (4 ∷ party_widths) (party.number ∷ party_values party) refl

pub head_sized : (form : Form) (ledger : Ledger) → length (head_part form ledger).1 ≡ head_size form
head_sized Pion ledger = length_record_bytes head_widths (head_values ledger) refl
head_sized Pio2 ledger = length_record_bytes (head_widths ++ added_widths) (head_values ledger ++ added_values ledger) refl

-- which are the sums of their widths
pub scheme_sum : (form : Form) → scheme_size form ≡ sum_of (number_first form 4 scheme_widths)
scheme_sum Pion = refl
scheme_sum Pio2 = refl

pub entry_sum : (form : Form) → entry_size form ≡ sum_of (number_first form 4 party_widths)
entry_sum Pion = refl
entry_sum Pio2 = refl

letters_sized : (form : Form) → length (letters_part form).1 ≡ 4
letters_sized Pion = refl
letters_sized Pio2 = refl

pub letters_field : (form : Form) → length (encoded_parts (letters_part form ∷ [])) ≡ 7
letters_field form = omega (arith, length_one (letters_part form), letters_sized form)

module _ (form : Form) where
  pub length_schemes : (schemes : List Scheme) → length (encoded_parts (map (scheme_part form) schemes)) ≡ scheme_length form * length schemes
  length_schemes schemes = length_each (scheme_part form) (scheme_size form) (scheme_sized form) schemes

  pub length_parties : (parties : List Party) → length (encoded_parts (map (party_part form) parties)) ≡ entry_length form * length parties
  length_parties parties = length_each (party_part form) (entry_size form) (entry_sized form) parties

  -- the two fields before the schemes
  pub length_front : (ledger : Ledger) → length (encoded_parts (letters_part form ∷ head_part form ledger ∷ [])) ≡ header_length form
  length_front ledger =
      let head = head_part form ledger in
      omega (arith, length_encoded_parts (letters_part form ∷ []) (head ∷ []), length_one (letters_part form), letters_sized form, length_one head, head_sized form ledger)

  -- and all before the entries
  pub length_until_entries : (ledger : Ledger) → ledger.count ≤ length ledger.schemes →
      length (encoded_parts (letters_part form ∷ head_part form ledger ∷ scheme_parts form ledger)) ≡ header_length form + scheme_length form * ledger.count
  unfolding scheme_parts
  length_until_entries ledger places =
      let front = letters_part form ∷ head_part form ledger ∷ [] in
      let schemes = take ledger.count ledger.schemes in
      let long : length schemes ≡ ledger.count = length-take-le ledger.count ledger.schemes places in
      let each : length (encoded_parts (map (scheme_part form) schemes)) ≡ scheme_length form * ledger.count =
      length_schemes schemes ∙ ap (λ n. scheme_length form * n) long in
      omega (arith, length_encoded_parts front (map (scheme_part form) schemes), length_front ledger, each)

  module _ (ledger : Ledger) (parties : List Party) (places : ledger.count ≤ length ledger.schemes) (entries : ledger.entries ≤ length parties) where
    pub length_fields : length (encoded_parts (stored_parts form ledger parties)) + check_length ≡ form_length form ledger.count ledger.entries
    unfolding party_parts
    length_fields =
        let until = letters_part form ∷ head_part form ledger ∷ scheme_parts form ledger in
        let records = take ledger.entries parties in
        let long : length records ≡ ledger.entries = length-take-le ledger.entries parties entries in
        let each : length (encoded_parts (map (party_part form) records)) ≡ entry_length form * ledger.entries =
        length_parties records ∙ ap (λ n. entry_length form * n) long in
        omega (arith, length_encoded_parts until (map (party_part form) records), length_until_entries ledger places, each)

    pub length_form : length (stored_form form ledger parties) ≡ form_length form ledger.count ledger.entries
    unfolding stored_form
    length_form = simp (length-append, length_bytes_of) (omega (arith, length_fields))
