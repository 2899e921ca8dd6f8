-- What is read of a file of bytes is within its widths, so that it can be stored in either form.
use Rattle.std.specs.Prelude.{ℕ, zero, suc, ◌+◌, ◌-◌, ◌^◌, ◌<◌, ◌≤◌, ◌≡◌, refl, length, take, drop, get_or, replicate}
use mathlib.Core.List.Memᴰ
use mathlib.Core.List.{List, [], ◌∷◌, ◌++◌, Memᴰ}
use Rattle.std.proofs.Common.{take_all, le_refl, sym, ap, subst, ◌∙◌, ⊎_elim, arith, length-take, length-drop}
use Rattle.std.proofs.lemmas.List.{drop-replicate}
use Rattle.numbers.specs.BigEndian.{Bytes}
use Rattle.numbers.proofs.Theorems.BigEndian.{Bytes-take, Bytes-drop, number_below}
use Rattle.field_walk.specs.Walk.{value_of}
use Rattle.field_walk.specs.FieldsWalk.{FieldsWalk}
use Rattle.tagged.specs.Find.{fields_of, fields_with, field_value, first_place}
use Rattle.tagged.specs.File.{fields_part}
use Rattle.tagged.proofs.Theorems.FoundFields.{Bytes-part}
use Rattle.ledger.specs.CapacityColumns.{sum_of}
use Rattle.ledger.specs.Limits.{most_schemes, most_entries}
use Rattle.ledger.specs.Lists.{at_start}
use Rattle.ledger.specs.Records.{no_scheme}
use Rattle.ledger.specs.declared.records.Scheme.{Scheme}
use Rattle.ledger.specs.declared.records.Party.{Party}
use Rattle.stored.specs.StoredRows.{head_size, scheme_size, entry_size, stored_rows}
use Rattle.stored.specs.Layout.{values_at, record_values, added_in, head_widths, added_widths, scheme_widths, scheme_values, party_widths, party_values}
use Rattle.stored.specs.Fit.{Fit}
use Rattle.stored.specs.Numbered.{numbered_from}
use Rattle.stored.specs.Form.{scheme_of_bytes, party_of_bytes, stored_schemes, stored_entries, no_schemes, stored_ledger}
use Rattle.stored.specs.FormFields.{FormFits}
use Rattle.stored.specs.StoredAccepted.{FormFound}
use Rattle.stored.proofs.Theorems.StoredFields.{StoredFields, stored_fields, schemes_with, parties_with, schemes_sized, entries_sized, head_found, few_schemes, few_entries}
use Rattle.stored.proofs.Theorems.StoredAccepted.{value_bytes, length_value}
use Rattle.stored.proofs.Theorems.ReadLedger.{stored_places}
use Rattle.stored.specs.declared.form.Form.{Form}
use Rattle.stored.specs.declared.form.Form.TheVariants.{Pion, Pio2}

-- ---- of each element of a list
among_append : {A : Type 0} (P : A → Type 0) (xs ys : List A) → ((x : A) → Memᴰ x xs → P x) → ((x : A) → Memᴰ x ys → P x) → (y : A) → Memᴰ y (xs ++ ys) → P y
among_append P [] ys front back y among = back y among
among_append P (x ∷ xs) ys front back y among =
    ⊎_elim (λ same. subst P (sym same) (front x (Memᴰ.head refl))) (among_append P xs ys (λ z here. front z (Memᴰ.tail here)) back y) (Memᴰ.cases_cons among)

among_replicate : {A : Type 0} (P : A → Type 0) (n : ℕ) (x : A) → P x → (y : A) → Memᴰ y (replicate n x) → P y
among_replicate P zero x h y among = absurd (Memᴰ.not-nil among)
among_replicate P (suc n) x h y among = ⊎_elim (λ same. subst P (sym same) h) (among_replicate P n x h y) (Memᴰ.cases_cons among)

among_numbered : {A B : Type 0} (P : B → Type 0) (each : ℕ → A → B) (place : ℕ) (xs : List A) → ((k : ℕ) (x : A) → k < place + length xs → Memᴰ x xs → P (each k x)) →
    (y : B) → Memᴰ y (numbered_from place each xs) → P y
among_numbered P each place [] h y among = absurd (Memᴰ.not-nil among)
among_numbered P each place (x ∷ xs) h y among =
    ⊎_elim (λ same. subst P (sym same) (h place x (omega arith) (Memᴰ.head refl)))
    (among_numbered P each (suc place) xs (λ k z below here. h k z (omega (arith, below)) (Memᴰ.tail here)) y) (Memᴰ.cases_cons among)

-- ---- values of bytes
values_fit : (widths bytes : List ℕ) (at : ℕ) → Bytes bytes → at + sum_of widths ≤ length bytes → Fit widths (values_at widths at bytes)
unfolding values_at
values_fit [] bytes at are fits = tt
values_fit (width ∷ widths) bytes at are fits =
    let here = take width (drop at bytes) in
    let long : length here ≡ width = simp (length-take, length-drop) (omega arith) in
    (rw long at (number_below here (Bytes-take width (drop at bytes) (Bytes-drop at bytes are))), values_fit widths bytes (at + width) are (omega arith))

abbrev SchemeFits : Scheme → Type 0
SchemeFits scheme = Fit (4 ∷ scheme_widths) (scheme.number ∷ scheme_values scheme)

abbrev PartyFits : Party → Type 0
PartyFits party = Fit (4 ∷ party_widths) (party.number ∷ party_values party)

no_scheme_fits : SchemeFits no_scheme
no_scheme_fits = (omega arith, (omega arith, (omega arith, (omega arith, (omega arith, (omega arith, (omega arith, tt)))))))

first_four : (bytes : List ℕ) → Bytes bytes → 4 ≤ length bytes → Fit (4 ∷ []) (values_at (4 ∷ []) 0 bytes)
first_four bytes are long = values_fit (4 ∷ []) bytes 0 are (omega arith)

module _ (place : ℕ) (value : List ℕ) (are : Bytes value) (below : place < 256 ^ 4) where
  scheme_fits : (form : Form) → length value ≡ scheme_size form → SchemeFits (scheme_of_bytes form place value)
  unfolding values_at
  scheme_fits Pion long = (below, values_fit scheme_widths value 0 are (omega (arith, long)))
  scheme_fits Pio2 long =
      ((first_four value are (omega (arith, long))).0, values_fit scheme_widths (drop 4 value) 0 (Bytes-drop 4 value are) (simp length-drop (omega (arith, long))))

  party_fits : (form : Form) → length value ≡ entry_size form → PartyFits (party_of_bytes form place value)
  unfolding values_at
  party_fits Pion long = (below, values_fit party_widths value 0 are (omega (arith, long)))
  party_fits Pio2 long =
      ((first_four value are (omega (arith, long))).0, values_fit party_widths (drop 4 value) 0 (Bytes-drop 4 value are) (simp length-drop (omega (arith, long))))

-- ---- the fields of a file
module _ (form : Form) (file : List ℕ) (bytes : Bytes file) (found : FormFound form file) where
  abbrev s : List ℕ
  s = fields_part file

  walks : FieldsWalk (stored_rows form) s
  walks = (found.stands.field_list, found.stands.walks)

  are : Bytes s
  are = Bytes-take (length file - 5) file bytes

  stored : StoredFields form (fields_of s)
  stored = stored_fields form s walks

  each_scheme : (scheme : Scheme) → Memᴰ scheme (stored_schemes form s) → SchemeFits scheme
  unfolding stored_schemes
  each_scheme =
      let fs = fields_with 3 (fields_of s) in
      let few : length fs ≤ most_schemes = omega (arith, ap length (schemes_with stored), stored.few_schemes) in
      among_numbered SchemeFits (λ k f. scheme_of_bytes form k (value_of s f)) 1 fs
      (λ k f below here.
      let mine = subst (Memᴰ f) (schemes_with stored) here in
      let among = subst (Memᴰ f) (sym stored.are) (Memᴰ.tail (Memᴰ.tail (Memᴰ.append_left stored.parties mine))) in
      scheme_fits k (value_of s f) (value_bytes s are f) (omega (arith, below, few)) form
      (length_value form s are walks f among ∙ schemes_sized form s walks f among (stored.of_schemes f mine).tag))

  each_party : (party : Party) → Memᴰ party (stored_entries form s) → PartyFits party
  unfolding stored_entries
  each_party =
      let fs = fields_with 4 (fields_of s) in
      let few : length fs ≤ most_entries = omega (arith, ap length (parties_with stored), stored.few_parties) in
      among_numbered PartyFits (λ k f. party_of_bytes form k (value_of s f)) 1 fs
      (λ k f below here.
      let mine = subst (Memᴰ f) (parties_with stored) here in
      let among = subst (Memᴰ f) (sym stored.are) (Memᴰ.tail (Memᴰ.tail (Memᴰ.append_right stored.schemes mine))) in
      party_fits k (value_of s f) (value_bytes s are f) (omega (arith, below, few)) form
      (length_value form s are walks f among ∙ entries_sized form s walks f among (stored.of_parties f mine).tag))

  each_place : (scheme : Scheme) → Memᴰ scheme (at_start (stored_schemes form s) no_schemes) → SchemeFits scheme
  unfolding no_schemes
  each_place =
      let schemes = stored_schemes form s in
      among_append SchemeFits schemes (drop (length schemes) (replicate most_schemes no_scheme)) each_scheme
      (rw (drop-replicate (length schemes) most_schemes no_scheme) (among_replicate SchemeFits (most_schemes - length schemes) no_scheme no_scheme_fits))

  -- the ledger and the entries that are read
  pub read_fits : FormFits (stored_ledger form s) (stored_entries form s)
  unfolding stored_ledger values_at
  read_fits =
      record {
        places = stored_places form file found;
        head_fits = head_of form refl;
        schemes_fit = each_place;
        parties_fit = λ party among. each_party party (subst (Memᴰ party) (take_all (length (stored_entries form s)) (stored_entries form s) (le_refl _)) among);
      }
    where
      value : List ℕ
      value = field_value 2 s

      value_are : Bytes value
      value_are = Bytes-part (first_place 2 s) s are

      added : Form → List ℕ
      added one = added_in one (length (stored_schemes form s)) (length (stored_entries form s)) value

      head_of : (one : Form) → form ≡ one →
          Fit (head_widths ++ added_widths)
          (record_values head_widths value ++ (get_or (added one) 0 0 ∷ get_or (added one) 1 0 ∷ get_or (added one) 2 0 ∷ get_or (added one) 3 0 ∷ get_or (added one) 4 0 ∷ []))
      head_of Pion is =
          let long : length value ≡ 22 = head_found form s walks ∙ ap head_size is in
          let first = values_fit head_widths value 0 value_are (omega (arith, long)) in
          (first.0, (first.1.0, (first.1.1.0, (first.1.1.1.0, (omega (arith, few_schemes form s walks), (omega (arith, few_entries form s walks), (omega arith, (omega arith, (omega arith, tt)))))))))
      head_of Pio2 is =
          let long : length value ≡ 54 = head_found form s walks ∙ ap head_size is in
          values_fit (head_widths ++ added_widths) value 0 value_are (omega (arith, long))
