-- Numbers that are places rise by one from 1 on.
use Rattle.std.specs.Prelude.{ℕ, suc, ◌+◌, ◌≡◌, refl, length, true}
use mathlib.Core.List.{List, [], ◌∷◌, map}
use Rattle.std.proofs.Common.{ap, ◌∙◌, arith}
use Rattle.std.proofs.lemmas.Bool.{lt-ltb}
use Rattle.ledger.specs.Sound.{rise_to, schemes_rise, entries_rise}
use Rattle.stored.specs.Numbered.{numbered_from}
use Rattle.stored.proofs.Theorems.Numbered.{length_numbered}
use Rattle.stored.proofs.Theorems.Layout.{take_at_start}
use Rattle.field_walk.specs.Walk.{FieldAt, value_of}
use Rattle.tagged.specs.Find.{fields_of, fields_with}
use Rattle.ledger.specs.declared.records.Scheme.{Scheme}
use Rattle.ledger.specs.declared.records.Party.{Party}
use Rattle.stored.specs.Form.{scheme_of_bytes, party_of_bytes, stored_schemes, stored_entries, no_schemes, stored_ledger}
use Rattle.stored.specs.declared.form.Form.TheVariants.{Pion}

pub rise_numbered : {A B : Type 0} (number : B → ℕ) (each : ℕ → A → B) → ((k : ℕ) (x : A) → number (each k x) ≡ k) → (before : ℕ) (xs : List A) (next : ℕ) →
    next ≡ before + length xs + 1 → rise_to next before (map number (numbered_from (suc before) each xs)) ≡ true
unfolding rise_to
rise_numbered number each same before [] next is = lt-ltb before next (omega arith)
rise_numbered number each same before (x ∷ xs) next is =
    rw (same (suc before) x, lt-ltb before (suc before) (omega arith)) (rise_numbered number each same (suc before) xs next (omega arith))

module _ (s : List ℕ) where
  -- the schemes and the entries of an old file
  pub schemes_rise_read : schemes_rise (stored_ledger Pion s) ≡ true
  unfolding stored_ledger stored_schemes
  schemes_rise_read =
      let schemes = stored_schemes Pion s in
      let fs = fields_with 3 (fields_of s) in
      let each : ℕ → FieldAt → Scheme = λ k f. scheme_of_bytes Pion k (value_of s f) in
      ap (λ given. rise_to (length schemes + 1) 0 (map (λ scheme. scheme.number) given)) (take_at_start schemes no_schemes)
      ∙ rise_numbered (λ scheme. scheme.number) each (λ k f. refl) 0 fs (length schemes + 1) (omega (arith, length_numbered 1 each fs))

  pub entries_rise_read : entries_rise (stored_ledger Pion s) (stored_entries Pion s) ≡ true
  unfolding stored_ledger stored_entries
  entries_rise_read =
      let fs = fields_with 4 (fields_of s) in
      let each : ℕ → FieldAt → Party = λ k f. party_of_bytes Pion k (value_of s f) in
      rise_numbered (λ entry. entry.number) each (λ k f. refl) 0 fs (length (stored_entries Pion s) + 1) (omega (arith, length_numbered 1 each fs))
