-- What the move from the old form judges is document 01's soundness, no more and no less: where schemes are numbered by their places, an entry's scheme stands
-- exactly where its number is at most their count.
use Rattle.std.specs.Prelude.{ℕ, suc, ◌+◌, ◌≤◌, ◌≡◌, refl, Bool, true, false, cond, length, leb, eqb, is_some, Err, Ok}
use mathlib.Core.List.{List, [], ◌∷◌}
use Rattle.std.proofs.Common.{sym, ap, ap₂, ◌∙◌, ⊎_elim, arith, take_all, le_refl}
use borrow.Author.Tests.{leb-true, le-leb, eqb-true, eq-eqb}
use mathlib.Mathlib.Data.Bool.Basic.{dichotomy}
use Rattle.field_walk.specs.Walk.{FieldAt, value_of}
use Rattle.tagged.specs.Find.{fields_of, fields_with}
use Rattle.ledger.specs.Limits.{most_entries}
use Rattle.ledger.specs.Lookup.{place_of, scheme_place}
use Rattle.ledger.specs.Sound.{all_hold, figures_within, tally_of, accounts_sound, parties_sound, schemes_sound, sound_figures}
use Rattle.ledger.proofs.Theorems.Lookup.{stands_cons}
use Rattle.std.proofs.lemmas.Bool.{cases_eq, true≢false}
use Rattle.tagged.specs.File.{fields_part, refusal, FileAnswer}
use Rattle.tagged.specs.Refusals.{ledger_unsound}
use Rattle.stored.specs.Reading.{form_of_file}
use Rattle.stored.specs.FormOutput.{form_end}
use Rattle.stored.specs.Writing.{WriteEnd}
use Rattle.stored.specs.Moves.{moved_by, move_to_new}
use Rattle.stored.proofs.Theorems.Reading.{read_refused_13, read_done, read_found}
use Rattle.stored.proofs.Theorems.StoredAccepted.{found_means}
use Rattle.stored.proofs.Theorems.StoredFields.{few_entries}
use Rattle.ledger.specs.declared.records.Scheme.{Scheme}
use Rattle.ledger.specs.declared.records.Party.{Party}
use Rattle.stored.specs.Numbered.{numbered_from}
use Rattle.stored.specs.OldSound.{old_parties_sound, old_schemes_sound, old_sound}
use Rattle.stored.specs.Form.{scheme_of_bytes, stored_schemes, stored_entries, no_schemes, stored_ledger}
use Rattle.stored.proofs.Theorems.Layout.{take_at_start}
use Rattle.stored.proofs.Theorems.Numbered.{length_numbered}
use Rattle.stored.specs.declared.form.Form.TheVariants.{Pion, Pio2}

-- ---- a scheme's number among places
module _ {A : Type 0} (each : ℕ → A → Scheme) (numbered : (k : ℕ) (x : A) → (each k x).number ≡ k) (n : ℕ) where
  abbrev stands : ℕ → List A → Bool
  stands before xs = is_some (scheme_place n (numbered_from (suc before) each xs))

  -- by the first of them
  first_stands : (before : ℕ) (x : A) (xs : List A) (own : Bool) → eqb (suc before) n ≡ own → stands before (x ∷ xs) ≡ cond own true (stands (suc before) xs)
  first_stands before x xs own e =
      stands_cons (λ scheme. scheme.number) n (each (suc before) x) (numbered_from (suc (suc before)) each xs)
      ∙ ap (λ test. cond test true (stands (suc before) xs)) (ap (λ m. eqb m n) (numbered (suc before) x) ∙ e)

  stands_from : (before : ℕ) (xs : List A) → suc before ≤ n → n ≤ before + length xs → stands before xs ≡ true
  stands_from before [] above below = absurd (omega arith)
  stands_from before (x ∷ xs) above below =
      ⊎_elim
      (λ other. first_stands before x xs false other ∙ stands_from (suc before) xs (below_other other) (omega arith))
      (λ own. first_stands before x xs true own)
      (dichotomy (eqb (suc before) n))
    where
      below_other : eqb (suc before) n ≡ false → suc (suc before) ≤ n
      below_other other = ⊎_elim (λ same. absurd (true≢false (sym (eq-eqb _ _ same) ∙ other))) (λ apart. omega (arith, apart)) (cases_eq (suc before) n)

  none_stands : is_some (scheme_place n []) ≡ false
  unfolding place_of
  none_stands = refl

  stands_within : (before : ℕ) (xs : List A) → stands before xs ≡ true → (suc before ≤ n) × (n ≤ before + length xs)
  stands_within before [] h = absurd (true≢false (sym h ∙ none_stands))
  stands_within before (x ∷ xs) h =
      ⊎_elim
      (λ other.
      let within = stands_within (suc before) xs (sym (first_stands before x xs false other) ∙ h) in
      (omega (arith, within.0), omega (arith, within.1)))
      (λ own. (omega (arith, eqb-true _ _ own), omega (arith, eqb-true _ _ own)))
      (dichotomy (eqb (suc before) n))

  -- so it stands exactly within the count
  stands_is : (xs : List A) (others : Bool) → cond (stands 0 xs) others false ≡ cond (leb 1 n) (cond (leb n (length xs)) others false) false
  stands_is xs others = by (leb 1 n) (leb n (length xs)) (stands 0 xs) refl refl refl
    where
      by : (low high here : Bool) → leb 1 n ≡ low → leb n (length xs) ≡ high → stands 0 xs ≡ here → cond here others false ≡ cond low (cond high others false) false
      by true true true l h e = refl
      by true true false l h e = absurd (true≢false (sym (stands_from 0 xs (leb-true _ _ l) (omega (arith, leb-true _ _ h))) ∙ e))
      by true false true l h e = let within = stands_within 0 xs e in absurd (true≢false (sym (le-leb n (length xs) (omega (arith, within.1))) ∙ h))
      by true false false l h e = refl
      by false high true l h e = let within = stands_within 0 xs e in absurd (true≢false (sym (le-leb 1 n within.0) ∙ l))
      by false high false l h e = refl

-- ---- the two tests
module _ {A : Type 0} (each : ℕ → A → Scheme) (numbered : (k : ℕ) (x : A) → (each k x).number ≡ k) (xs : List A) where
  parties_are : (parties : List Party) → parties_sound (numbered_from 1 each xs) parties ≡ old_parties_sound (length xs) parties
  unfolding parties_sound old_parties_sound
  parties_are [] = refl
  parties_are (party ∷ parties) =
      ap₂ (λ first later. cond first later false) (stands_is each numbered party.scheme xs (all_hold (figures_within party))) (parties_are parties)

  schemes_are : (month : ℕ) (parties : List Party) (place : ℕ) (ys : List A) →
      schemes_sound month parties (numbered_from place each ys) ≡ old_schemes_sound month parties place (numbered_from place each ys)
  unfolding schemes_sound old_schemes_sound
  schemes_are month parties place [] = refl
  schemes_are month parties place (y ∷ ys) =
      ap₂ (λ n later. cond (accounts_sound month (each place y) (tally_of n parties)) later false) (numbered place y) (schemes_are month parties (suc place) ys)

pub old_sound_lem : (s : List ℕ) →
    sound_figures (stored_ledger Pion s) (stored_entries Pion s) most_entries ≡ old_sound (stored_ledger Pion s) (stored_entries Pion s) most_entries
unfolding sound_figures stored_ledger stored_schemes
old_sound_lem s =
    let fs = fields_with 3 (fields_of s) in
    let each : ℕ → FieldAt → Scheme = λ k f. scheme_of_bytes Pion k (value_of s f) in
    let schemes = numbered_from 1 each fs in
    let entries = stored_entries Pion s in
    let count : length schemes ≡ length fs = length_numbered 1 each fs in
    rw (take_all (length entries) entries (le_refl _), take_at_start schemes no_schemes)
    (rw (parties_are each (λ k f. refl) fs entries, schemes_are each (λ k f. refl) fs (stored_ledger Pion s).month entries 1 fs, count) refl)

-- the move's 13
pub old_sound_judged : (file out : List ℕ) → form_of_file Pion file ≡ Ok tt →
    let s = fields_part file in
    let sound = old_sound (stored_ledger Pion s) (stored_entries Pion s) most_entries in
    (sound ≡ false → move_to_new file out ≡ record { answer = Err (refusal ledger_unsound 0 0); output = out })
    × (sound ≡ true → move_to_new file out ≡ form_end Pio2 (stored_ledger Pion s) (stored_entries Pion s) out)
old_sound_judged file out found =
    let s = fields_part file in
    let stands = (found_means Pion file found).stands in
    let few = few_entries Pion s (stands.field_list, stands.walks) in
    let by_table = read_found Pion most_entries file found in
    let moved : FileAnswer → WriteEnd = λ answer. moved_by answer (form_end Pio2 (stored_ledger Pion s) (stored_entries Pion s) out) out in (
      λ unsound. ap moved (by_table ∙ read_refused_13 Pion most_entries s few (old_sound_lem s ∙ unsound)),
      λ holds. ap moved (by_table ∙ read_done Pion most_entries s few (old_sound_lem s ∙ holds)),
    )
