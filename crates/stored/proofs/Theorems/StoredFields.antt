-- The fields of a file that walks as a stored ledger: the letters, the head, the schemes, the entries.
use Rattle.std.specs.Prelude.{ℕ, ◌<◌, ◌≤◌, ◌≡◌, refl, length, get_or}
use Rattle.std.proofs.Common.{ap, subst, ◌∙◌, ⊎_elim, arith}
use mathlib.Core.List.{List, [], ◌∷◌, ◌++◌, append-nil, Memᴰ}
use Rattle.field_walk.specs.Walk.{FieldAt, value_of, lowest_of, highest_of}
use Rattle.field_walk.specs.FieldsWalk.{FieldsWalk}
use Rattle.tagged.specs.Find.{fields_of, fields_with, field_value}
use Rattle.tagged.proofs.Theorems.FieldsWith.{with_past, with_append, with_all, with_none, with_among}
use Rattle.tagged.specs.RowFields.{OfRow}
use Rattle.tagged.proofs.Theorems.Walk.{Stand-once, Stand-repeated, Stand-last, walk_stands, permitted_length}
use Rattle.tagged.proofs.Theorems.FoundFields.{walk_fields_of, walk_sized}
use Rattle.ledger.specs.Limits.{most_schemes, most_entries}
use Rattle.stored.specs.StoredRows.{head_size, scheme_size, entry_size, stored_rows}
use Rattle.stored.specs.declared.form.Form.{Form}
use Rattle.stored.specs.Cases.StoredRows.{stored_rows_rise}
use Rattle.stored.proofs.Theorems.Numbered.{length_numbered}
use Rattle.stored.specs.Form.{scheme_of_bytes, party_of_bytes, each_with, stored_schemes, stored_entries}

-- row k of the table
abbrev pub row_at : Form → ℕ → List ℕ
row_at form k = get_or (stored_rows form) k []

pub record StoredFields (form : Form) (fs : List FieldAt) : Type 0 where
  pub letters : FieldAt
  pub head : FieldAt
  pub schemes : List FieldAt
  pub parties : List FieldAt
  pub are : fs ≡ letters ∷ head ∷ schemes ++ parties
  pub of_letters : OfRow (row_at form 0) letters
  pub of_head : OfRow (row_at form 1) head
  pub of_schemes : (f : FieldAt) → Memᴰ f schemes → OfRow (row_at form 2) f
  pub of_parties : (f : FieldAt) → Memᴰ f parties → OfRow (row_at form 3) f
  pub few_schemes : length schemes ≤ most_schemes
  pub few_parties : length parties ≤ most_entries

pub stored_fields : (form : Form) (s : List ℕ) → FieldsWalk (stored_rows form) s → StoredFields form (fields_of s)
stored_fields form s (fs, walks) =
    let first = Stand-once (⊎_elim (λ x. x) (λ x. x) (walk_stands (stored_rows form) s fs walks)) refl refl in
    let second = Stand-once first.rest refl refl in
    let third = Stand-repeated second.rest (omega arith) in
    let last = Stand-last third.rest in
    record {
      letters = first.f;
      head = second.f;
      schemes = third.mine;
      parties = third.others;
      are =
          walk_fields_of (stored_rows form) s fs walks ∙ first.are ∙ ap (λ l. first.f ∷ l) (second.are ∙ ap (λ l. second.f ∷ l) third.are);
      of_letters = first.of_row;
      of_head = second.of_row;
      of_schemes = third.of_row;
      of_parties = last.2;
      few_schemes = omega (arith, third.most);
      few_parties = last.1;
    }

module _ {form : Form} {fs : List FieldAt} (stored : StoredFields form fs) where
  -- past the letters and the head
  with_later : (tag : ℕ) → 2 < tag → fields_with tag fs ≡ fields_with tag stored.schemes ++ fields_with tag stored.parties
  with_later tag above =
      let later = stored.schemes ++ stored.parties in
      ap (fields_with tag) stored.are
      ∙ with_past tag stored.letters (stored.head ∷ later) (λ e. omega (arith, stored.of_letters.tag))
      ∙ with_past tag stored.head later (λ e. omega (arith, stored.of_head.tag))
      ∙ with_append tag stored.schemes stored.parties

  pub schemes_with : fields_with 3 fs ≡ stored.schemes
  schemes_with =
      with_later 3 (omega arith)
      ∙ rw (
        with_all 3 stored.schemes (λ f among. (stored.of_schemes f among).tag),
        with_none 3 stored.parties (λ f among e. omega (arith, (stored.of_parties f among).tag)),
      )
      (append-nil stored.schemes)

  pub parties_with : fields_with 4 fs ≡ stored.parties
  parties_with =
      with_later 4 (omega arith)
      ∙ rw (
        with_none 4 stored.schemes (λ f among e. omega (arith, (stored.of_schemes f among).tag)),
        with_all 4 stored.parties (λ f among. (stored.of_parties f among).tag),
      )

-- the fields with a tag are of a row that permits one length alone
pub all_sized : {fs mine : List FieldAt} (row : List ℕ) (tag size : ℕ) → fields_with tag fs ≡ mine → ((f : FieldAt) → Memᴰ f mine → OfRow row f) →
    lowest_of row ≡ size → highest_of row ≡ size → (f : FieldAt) → Memᴰ f fs → f.tag ≡ tag → f.len ≡ size
all_sized {fs} row tag size are of lowest highest f among same =
    omega (arith, permitted_length row f.len (of f (subst (Memᴰ f) are (with_among tag fs f among same))).permitted)

-- ---- the schemes and the entries, as they are collected
pub schemes_collected : (form : Form) (s : List ℕ) → stored_schemes form s ≡ each_with (scheme_of_bytes form) 1 3 s (fields_of s)
unfolding stored_schemes
schemes_collected form s = refl

pub entries_collected : (form : Form) (s : List ℕ) → stored_entries form s ≡ each_with (party_of_bytes form) 1 4 s (fields_of s)
unfolding stored_entries
entries_collected form s = refl

module _ (form : Form) (s : List ℕ) (walks : FieldsWalk (stored_rows form) s) where
  -- the sizes of its fields with tag 3 and with tag 4, and of its head
  pub schemes_sized : (f : FieldAt) → Memᴰ f (fields_of s) → f.tag ≡ 3 → f.len ≡ scheme_size form
  schemes_sized =
      let stored = stored_fields form s walks in all_sized (row_at form 2) 3 (scheme_size form) (schemes_with stored) stored.of_schemes refl refl

  pub entries_sized : (f : FieldAt) → Memᴰ f (fields_of s) → f.tag ≡ 4 → f.len ≡ entry_size form
  entries_sized =
      let stored = stored_fields form s walks in all_sized (row_at form 3) 4 (entry_size form) (parties_with stored) stored.of_parties refl refl

  pub head_found : length (field_value 2 s) ≡ head_size form
  head_found =
      let head = walk_sized (stored_rows form) s (stored_rows_rise form) walks 1 (omega arith) (omega arith) in
      omega (arith, head.lowest, head.highest)

  pub few_schemes : length (stored_schemes form s) ≤ most_schemes
  unfolding stored_schemes
  few_schemes =
      let stored = stored_fields form s walks in
      rw (length_numbered 1 (λ k f. scheme_of_bytes form k (value_of s f)) (fields_with 3 (fields_of s)), schemes_with stored) stored.few_schemes

  pub few_entries : length (stored_entries form s) ≤ most_entries
  unfolding stored_entries
  few_entries =
      let stored = stored_fields form s walks in
      rw (length_numbered 1 (λ k f. party_of_bytes form k (value_of s f)) (fields_with 4 (fields_of s)), parties_with stored) stored.few_parties

  pub few_schemes_collected : length (each_with (scheme_of_bytes form) 1 3 s (fields_of s)) ≤ most_schemes
  few_schemes_collected = omega (arith, few_schemes, ap length (schemes_collected form s))

  pub few_entries_collected : length (each_with (party_of_bytes form) 1 4 s (fields_of s)) ≤ most_entries
  few_entries_collected = omega (arith, few_entries, ap length (entries_collected form s))
