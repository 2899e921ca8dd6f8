-- The moves keep month, connections, both sums, and the six values of each scheme and of each entry.
use Rattle.std.specs.Prelude.{ℕ, suc, ◌≡◌, refl, map, take, Ok}
use mathlib.Core.List.{List, [], ◌∷◌}
use Rattle.std.proofs.Common.{sym, ap, ap₂, ◌∙◌}
use Rattle.numbers.specs.BigEndian.{Bytes}
use Rattle.field_walk.specs.Walk.{value_of}
use Rattle.tagged.specs.Find.{fields_of, fields_with}
use Rattle.tagged.specs.File.{fields_part}
use Rattle.ledger.specs.declared.records.Ledger.{Ledger}
use Rattle.stored.specs.Numbered.{numbered_from}
use Rattle.stored.specs.Layout.{values_at, head_values, scheme_values, party_values}
use Rattle.stored.specs.Form.{scheme_of_bytes, party_of_bytes, stored_schemes, stored_entries, no_schemes, stored_ledger}
use Rattle.stored.specs.Moves.{move_to_new, move_back}
use Rattle.stored.specs.MoveLaws.{written_of, head_held, schemes_held, entries_held, SameValues}
use Rattle.stored.proofs.Theorems.Layout.{take_at_start}
use Rattle.stored.proofs.Theorems.Moves.{to_new_stands, to_new_written, new_ledger_back, new_entries_back, back_stands, back_written, old_ledger_back, old_entries_back}
use Rattle.stored.specs.declared.form.Form.{Form}
use Rattle.stored.specs.declared.form.Form.TheVariants.{Pion, Pio2}

values_of_numbered : {A B C : Type 0} (values : B → C) (held : A → C) (each : ℕ → A → B) → ((k : ℕ) (x : A) → values (each k x) ≡ held x) → (place : ℕ) (xs : List A) →
    map values (numbered_from place each xs) ≡ map held xs
values_of_numbered values held each same place [] = refl
values_of_numbered values held each same place (x ∷ xs) = ap₂ ◌∷◌ (same place x) (values_of_numbered values held each same (suc place) xs)

-- the values that are read are those of the bytes
module _ (form : Form) (s : List ℕ) where
  head_read : head_values (stored_ledger form s) ≡ head_held s
  unfolding stored_ledger values_at
  head_read = refl

  schemes_read : map scheme_values (stored_schemes form s) ≡ schemes_held form s
  unfolding stored_schemes values_at
  schemes_read = values_of_numbered scheme_values _ (λ k f. scheme_of_bytes form k (value_of s f)) (λ k f. refl) 1 (fields_with 3 (fields_of s))

  entries_read : map party_values (stored_entries form s) ≡ entries_held form s
  unfolding stored_entries values_at
  entries_read = values_of_numbered party_values _ (λ k f. party_of_bytes form k (value_of s f)) (λ k f. refl) 1 (fields_with 4 (fields_of s))

  -- the schemes are the ledger's first
  schemes_of_ledger : take (stored_ledger form s).count (stored_ledger form s).schemes ≡ stored_schemes form s
  unfolding stored_ledger
  schemes_of_ledger = take_at_start (stored_schemes form s) no_schemes

-- files of the two forms in which the same ledger and entries are read
same_values : (old new : List ℕ) → stored_ledger Pion (fields_part old) ≡ stored_ledger Pio2 (fields_part new) →
    stored_entries Pion (fields_part old) ≡ stored_entries Pio2 (fields_part new) → SameValues old new
same_values old new ledgers entries =
    let before = fields_part old in
    let after = fields_part new in
    record {
      head = sym (head_read Pion before) ∙ ap head_values ledgers ∙ head_read Pio2 after;
      schemes =
          sym (schemes_read Pion before)
          ∙ ap (map scheme_values)
          (sym (schemes_of_ledger Pion before) ∙ ap (λ (ledger : Ledger). take ledger.count ledger.schemes) ledgers ∙ schemes_of_ledger Pio2 after)
          ∙ schemes_read Pio2 after;
      entries = sym (entries_read Pion before) ∙ ap (map party_values) entries ∙ entries_read Pio2 after;
    }

pub move_keeps_values : (file out : List ℕ) (size : ℕ) → Bytes file → (move_to_new file out).answer ≡ Ok size →
    SameValues file (written_of size (move_to_new file out))
move_keeps_values file out size bytes told =
    let stands = to_new_stands file out size told in
    let written = to_new_written file out size told in
    same_values file (written_of size (move_to_new file out))
    (sym (ap (λ new. stored_ledger Pio2 (fields_part new)) written ∙ new_ledger_back file bytes stands))
    (sym (ap (λ new. stored_entries Pio2 (fields_part new)) written ∙ new_entries_back file bytes stands))

pub move_back_keeps_values : (file out : List ℕ) (size : ℕ) → Bytes file → (move_back file out).answer ≡ Ok size →
    SameValues (written_of size (move_back file out)) file
move_back_keeps_values file out size bytes told =
    let stands = back_stands file out size told in
    let written = back_written file out size told in
    same_values (written_of size (move_back file out)) file
    (ap (λ old. stored_ledger Pion (fields_part old)) written ∙ old_ledger_back file bytes stands)
    (ap (λ old. stored_entries Pion (fields_part old)) written ∙ old_entries_back file bytes stands)
