-- The moves bring a ledger back: what one has written the other moves to the same bytes.
use Rattle.std.specs.Prelude.{ℕ, suc, ◌+◌, ◌-◌, ◌*◌, ◌<◌, ◌≤◌, ◌≡◌, refl, List, [], ◌∷◌, Bool, true, false, cond, length, map, take, leb, eqb, Err, Ok}
use Rattle.std.proofs.Common.{zero-le, sym, ap, ap₂, subst, ◌∙◌, ⊎_elim, arith, take_all, le_refl, le-leb, leb-true, leb-false}
use Rattle.std.proofs.lemmas.Bool.{lt-leb}
use Rattle.std.proofs.lemmas.List.{length-map}
use Rattle.std.proofs.Math.Seq.{length-take-le}
use borrow.Author.Tests.{eq-eqb, eqb-true}
use mathlib.Mathlib.Data.Bool.Basic.{dichotomy}
use Rattle.tagged.proofs.Theorems.Impossible.{impossible}
use Rattle.numbers.specs.BigEndian.{Bytes}
use Rattle.tagged.specs.File.{fields_part, refusal, FileAnswer}
use Rattle.tagged.specs.Refusals.{output_too_short, numbers_not_counts}
use Rattle.ledger.specs.Limits.{most_entries, highest_put_in}
use Rattle.ledger.specs.Lists.{at_start}
use Rattle.ledger.specs.Sound.{all_hold, rise_to, sound, sound_figures, entries_rise}
use Rattle.ledger.specs.SoundConditions.{SoundFigures, SoundNumbers, SoundLedger}
use Rattle.ledger.proofs.Theorems.Rising.{rise_first, rise_later, rise_length}
use Rattle.ledger.proofs.Theorems.Sound.{both_true, figures_mean, mean_figures, sound_means, means_sound}
use Rattle.ledger.specs.declared.records.Party.{Party}
use Rattle.ledger.specs.declared.records.Ledger.{Ledger}
use Rattle.stored.specs.Numbered.{numbered_from}
use Rattle.stored.specs.Form.{stored_form, stored_entries, stored_ledger}
use Rattle.stored.specs.FormFields.{FormFits}
use Rattle.stored.specs.StoredAccepted.{StoredAccepted}
use Rattle.stored.specs.Writing.{form_answer, output_by, WriteEnd}
use Rattle.stored.specs.FormOutput.{form_end}
use Rattle.stored.specs.Reading.{in_turn, read_answer}
use Rattle.stored.specs.Moves.{numbers_are_counts, numbers_answer, old_file_answer, new_file_answer, moved_by, move_to_new, move_back}
use Rattle.stored.specs.MoveLaws.{written_of, ComesBack}
use Rattle.stored.proofs.Theorems.Layout.{take_at_start}
use Rattle.stored.proofs.Theorems.FormFields.{NumbersPlaced, placed_scheme, placed_party, fields_of_form}
use Rattle.stored.proofs.Theorems.Reading.{read_done, read_found}
use Rattle.stored.proofs.Theorems.StoredAccepted.{in_turn_stands, accepted_means, form_of_found}
use Rattle.stored.proofs.Theorems.SameForm.{same_form}
use Rattle.stored.proofs.Theorems.Writing.{form_refused_14, form_done}
use Rattle.stored.proofs.Theorems.ReadFits.{read_fits}
use Rattle.stored.proofs.Theorems.Places.{schemes_rise_read, entries_rise_read}
use Rattle.stored.proofs.Theorems.RoundTrips.{form_accepted, form_is_found, ledger_back, entries_back}
use Rattle.stored.specs.declared.form.Form.{Form}
use Rattle.stored.specs.declared.form.Form.TheVariants.{Pion, Pio2}

-- ---- by what reading answers
moved_done : (answer : FileAnswer) (written : WriteEnd) (out : List ℕ) → answer ≡ Ok tt → moved_by answer written out ≡ written
moved_done answer written out stands = ap (λ one. moved_by one written out) stands

-- where a length is told, reading refused nothing, and the form was written
moved_stands : (answer : FileAnswer) (form : Form) (ledger : Ledger) (parties : List Party) (out : List ℕ) (size : ℕ) →
    (moved_by answer (form_end form ledger parties out) out).answer ≡ Ok size → (answer ≡ Ok tt) × (form_answer form ledger parties out ≡ Ok size)
moved_stands (Ok _) form ledger parties out size e = (refl, e)
moved_stands (Err r) form ledger parties out size e = impossible cc

-- what a move has written of a ledger is its form
written_is_form : (form : Form) (ledger : Ledger) (parties : List Party) (out : List ℕ) (size : ℕ) → form_answer form ledger parties out ≡ Ok size →
    take size (form_end form ledger parties out).output ≡ stored_form form ledger parties
written_is_form form ledger parties out size told =
    let bytes = stored_form form ledger parties in
    ⊎_elim
    (λ short. impossible (let z = sym (form_refused_14 form ledger parties out (leb-false _ _ short)) ∙ told in cc))
    (λ long.
    let done = form_done form ledger parties out (leb-true _ _ long) in
    let same : length bytes ≡ size = cc in
    ap (λ n. take n (form_end form ledger parties out).output) (sym same)
    ∙ ap (λ answer. take (length bytes) (output_by answer bytes out)) done
    ∙ take_at_start bytes out)
    (dichotomy (leb (length bytes) (length out)))

-- ---- what is read of a file that reading finds
module _ (form : Form) (file : List ℕ) (bytes : Bytes file) (stands : read_answer form most_entries file ≡ Ok tt) where
  abbrev s : List ℕ
  s = fields_part file

  abbrev its_ledger : Ledger
  its_ledger = stored_ledger form s

  abbrev its_parties : List Party
  its_parties = stored_entries form s

  accepted : StoredAccepted form most_entries file
  accepted = accepted_means form most_entries file stands

  fits : FormFits its_ledger its_parties
  fits = read_fits form file bytes accepted.found

  as_many : its_ledger.entries ≡ length its_parties
  unfolding stored_ledger
  as_many = refl

  -- the file is the form of what is read
  form_is_file : stored_form form its_ledger its_parties ≡ file
  form_is_file =
      same_form form its_parties (at_start its_parties []) refl
      (take_all its_ledger.entries its_parties (omega (arith, as_many)) ∙ sym (ap (λ n. take n (at_start its_parties [])) as_many ∙ take_at_start its_parties []))
      ∙ form_of_found form file [] bytes accepted.found

-- ---- how writing a form ends whose bytes are a file's
module _ (form : Form) (ledger : Ledger) (parties : List Party) (file : List ℕ) (is : stored_form form ledger parties ≡ file) (out : List ℕ) where
  end_fits : length file ≤ length out → form_end form ledger parties out ≡ record { answer = Ok (length file); output = at_start file out }
  end_fits fits = rw (is, le-leb (length file) (length out) fits)

  end_short : length out < length file → form_end form ledger parties out ≡ record { answer = Err (refusal output_too_short 0 0); output = out }
  end_short short = rw (is, lt-leb (length file) (length out) short)

-- a file whose move to a form is that form of a ledger, and comes back
comes_back : (form : Form) (ledger : Ledger) (parties : List Party) (file moved : List ℕ) (moves : List ℕ → List ℕ → WriteEnd) →
    stored_form form ledger parties ≡ file → ((out : List ℕ) → moves moved out ≡ form_end form ledger parties out) → ComesBack moves moved file
comes_back form ledger parties file moved moves is ends =
    record {
      fits = λ out fits. ends out ∙ end_fits form ledger parties file is out fits;
      short = λ out short. ends out ∙ end_short form ledger parties file is out short;
    }

-- ---- from old to new and back

-- document 01's conditions say of the table's length that the entries are within it
figures_within : (ledger : Ledger) (parties : List Party) (room other : ℕ) → SoundFigures ledger parties room → ledger.entries ≤ other →
    SoundFigures ledger parties other
figures_within ledger parties room other h within =
    record {
      schemes = h.schemes;
      entries = h.entries;
      in_table = within;
      connections = h.connections;
      charged = h.charged;
      borne = h.borne;
      each_party = h.each_party;
      each_scheme = h.each_scheme;
      rest_zero = h.rest_zero;
    }

module _ (file : List ℕ) (bytes : Bytes file) (stands : old_file_answer file ≡ Ok tt) where
  abbrev old_s : List ℕ
  old_s = fields_part file

  abbrev old_ledger : Ledger
  old_ledger = stored_ledger Pion old_s

  abbrev old_parties : List Party
  old_parties = stored_entries Pion old_s

  old_figures : SoundFigures old_ledger old_parties most_entries
  old_figures = figures_mean old_ledger old_parties most_entries (accepted Pion file bytes stands).holds

  -- its numbers are sound too
  old_numbers : SoundNumbers old_ledger (take old_ledger.entries old_parties)
  unfolding stored_ledger
  old_numbers =
      record {
        schemes_in_order = schemes_rise_read old_s;
        entries_in_order =
            ap (entries_rise old_ledger) (take_all (length old_parties) old_parties (le_refl _)) ∙ entries_rise_read old_s;
        next_scheme = omega (arith, old_figures.schemes);
        next_entry = omega (arith, old_figures.entries);
        cleared_account = refl;
        cleared_limit = zero-le;
      }

  old_sound : sound old_ledger old_parties (length old_parties) ≡ true
  old_sound =
      means_sound old_ledger old_parties (length old_parties)
      (record { figures = figures_within old_ledger old_parties most_entries (length old_parties) old_figures (omega (arith, as_many Pion file bytes stands)); numbers = old_numbers })

  old_counts : numbers_answer old_ledger ≡ Ok tt
  unfolding stored_ledger
  old_counts = rw (eq-eqb (old_ledger.count + 1) (old_ledger.count + 1) refl, eq-eqb (old_ledger.entries + 1) (old_ledger.entries + 1) refl)

  abbrev new_form : List ℕ
  new_form = stored_form Pio2 old_ledger old_parties

  abbrev old_fits : FormFits old_ledger old_parties
  old_fits = fits Pion file bytes stands

  pub new_ledger_back : stored_ledger Pio2 (fields_part new_form) ≡ old_ledger
  new_ledger_back =
      ap (stored_ledger Pio2) (fields_of_form Pio2 old_ledger old_parties)
      ∙ ledger_back Pio2 old_ledger old_parties old_fits tt old_figures.schemes old_figures.entries (omega (arith, as_many Pion file bytes stands)) old_figures.rest_zero

  pub new_entries_back : stored_entries Pio2 (fields_part new_form) ≡ old_parties
  new_entries_back =
      ap (stored_entries Pio2) (fields_of_form Pio2 old_ledger old_parties)
      ∙ entries_back Pio2 old_ledger old_parties old_fits tt old_figures.schemes old_figures.entries (omega (arith, as_many Pion file bytes stands)) old_figures.rest_zero
      ∙ take_all old_ledger.entries old_parties (omega (arith, as_many Pion file bytes stands))

  new_taken_back : (out : List ℕ) → move_back new_form out ≡ form_end Pion old_ledger old_parties out
  new_taken_back out =
      moved_done (new_file_answer new_form) (form_end Pion (stored_ledger Pio2 (fields_part new_form)) (stored_entries Pio2 (fields_part new_form)) out) out
      (ap₂ in_turn (form_accepted old_ledger old_parties old_fits old_sound most_entries old_figures.entries) (ap numbers_answer new_ledger_back ∙ old_counts))
      ∙ ap₂ (λ ledger parties. form_end Pion ledger parties out) new_ledger_back new_entries_back

  new_comes_back : ComesBack move_back new_form file
  new_comes_back = comes_back Pion old_ledger old_parties file new_form move_back (form_is_file Pion file bytes stands) new_taken_back

-- what the move to the new form has written
module _ (file out : List ℕ) (size : ℕ) (told : (move_to_new file out).answer ≡ Ok size) where
  pub to_new_stands : old_file_answer file ≡ Ok tt
  to_new_stands = (moved_stands (old_file_answer file) Pio2 (stored_ledger Pion (fields_part file)) (stored_entries Pion (fields_part file)) out size told).0

  pub to_new_written : written_of size (move_to_new file out) ≡ stored_form Pio2 (stored_ledger Pion (fields_part file)) (stored_entries Pion (fields_part file))
  to_new_written =
      let ledger = stored_ledger Pion (fields_part file) in
      let parties = stored_entries Pion (fields_part file) in
      ap (λ end. take size end.output) (moved_done (old_file_answer file) (form_end Pio2 ledger parties out) out to_new_stands)
      ∙ written_is_form Pio2 ledger parties out size (moved_stands (old_file_answer file) Pio2 ledger parties out size told).1

pub moved_and_back : (file out : List ℕ) (size : ℕ) → Bytes file → (move_to_new file out).answer ≡ Ok size →
    ComesBack move_back (written_of size (move_to_new file out)) file
moved_and_back file out size bytes told =
    subst (λ moved. ComesBack move_back moved file) (sym (to_new_written file out size told)) (new_comes_back file bytes (to_new_stands file out size told))

-- ---- from new to old and back

-- numbers that rise and leave no gap before the next one are the places
placed_by_rise : {A : Type 0} (number : A → ℕ) (placed : ℕ → A → A) → ((x : A) → placed (number x) x ≡ x) → (before next : ℕ) (xs : List A) →
    next ≡ before + length xs + 1 → rise_to next before (map number xs) ≡ true → numbered_from (suc before) placed xs ≡ xs
placed_by_rise number placed same before next [] is rises = refl
placed_by_rise number placed same before next (x ∷ xs) is rises =
    let above = rise_first next before (number x) (map number xs) rises in
    let later = rise_later next before (number x) (map number xs) rises in
    let here : number x ≡ suc before = omega (arith, above, rise_length next (number x) (map number xs) later, length-map xs number) in
    ap₂ ◌∷◌ (ap (λ n. placed n x) (sym here) ∙ same x)
    (placed_by_rise number placed same (suc before) next xs (omega arith) (ap (λ n. rise_to next n (map number xs)) (sym here) ∙ later))

-- what 16 asks for
counts_hold : (holds : Bool) → ◌≡◌ {A = FileAnswer} (cond holds (Ok tt) (Err (refusal numbers_not_counts 0 0))) (Ok tt) → holds ≡ true
counts_hold true e = refl
counts_hold false e = impossible cc

numbers_hold : (ledger : Ledger) → numbers_answer ledger ≡ Ok tt → (ledger.next_scheme ≡ ledger.count + 1) × (ledger.next_entry ≡ ledger.entries + 1)
numbers_hold ledger e =
    let entry = eqb ledger.next_entry (ledger.entries + 1) in
    let both = both_true (eqb ledger.next_scheme (ledger.count + 1)) (all_hold (entry ∷ [])) (counts_hold (all_hold (numbers_are_counts ledger)) e) in
    (eqb-true _ _ both.0, eqb-true _ _ (both_true entry true both.1).0)

added_are : {scheme entry collected paid_out fees count entries : ℕ} → scheme ≡ count → entry ≡ entries → collected ≡ 0 → paid_out ≡ 0 → fees ≡ 0 →
    (scheme ∷ entry ∷ collected ∷ paid_out ∷ fees ∷ []) ≡ count ∷ entries ∷ 0 ∷ 0 ∷ 0 ∷ []
added_are a b c d e = rw (a, b, c, d, e)

module _ (file : List ℕ) (bytes : Bytes file) (answer : new_file_answer file ≡ Ok tt) where
  abbrev new_s : List ℕ
  new_s = fields_part file

  abbrev new_ledger : Ledger
  new_ledger = stored_ledger Pio2 new_s

  abbrev new_parties : List Party
  new_parties = stored_entries Pio2 new_s

  new_stands : read_answer Pio2 most_entries file ≡ Ok tt
  new_stands = (in_turn_stands (read_answer Pio2 most_entries file) (numbers_answer new_ledger) answer).0

  abbrev new_fits : FormFits new_ledger new_parties
  new_fits = fits Pio2 file bytes new_stands

  counts : (new_ledger.next_scheme ≡ new_ledger.count + 1) × (new_ledger.next_entry ≡ new_ledger.entries + 1)
  counts = numbers_hold new_ledger (in_turn_stands (read_answer Pio2 most_entries file) (numbers_answer new_ledger) answer).1

  new_facts : SoundLedger new_ledger new_parties most_entries
  new_facts = sound_means new_ledger new_parties most_entries (accepted Pio2 file bytes new_stands).holds

  few : new_ledger.entries ≤ length new_parties
  few = omega (arith, as_many Pio2 file bytes new_stands)

  all_taken : take new_ledger.entries new_parties ≡ new_parties
  all_taken = take_all new_ledger.entries new_parties (omega (arith, as_many Pio2 file bytes new_stands))

  placed : NumbersPlaced new_ledger new_parties
  placed =
      let schemes = take new_ledger.count new_ledger.schemes in
      let count : length schemes ≡ new_ledger.count =
      length-take-le new_ledger.count new_ledger.schemes (omega (arith, new_facts.figures.schemes, new_fits.places)) in
      let numbers = new_facts.numbers in
      let none : new_ledger.next_entry - 1 - new_ledger.entries ≡ 0 = omega (arith, counts.1) in
      let collected : new_ledger.cleared_collected ≡ 0 = omega (arith, numbers.cleared_limit, ap (λ n. highest_put_in * n) none) in
      let account = numbers.cleared_account in
      record {
        of_schemes = placed_by_rise (λ scheme. scheme.number) (placed_scheme Pion) (λ scheme. refl) 0 new_ledger.next_scheme schemes (omega (arith, counts.0, count)) numbers.schemes_in_order;
        of_parties = placed_by_rise (λ party. party.number) (placed_party Pion) (λ party. refl) 0 new_ledger.next_entry (take new_ledger.entries new_parties)
            (omega (arith, counts.1, ap length all_taken, as_many Pio2 file bytes new_stands)) numbers.entries_in_order;
        of_ledger =
            added_are counts.0 counts.1 collected (omega (arith, account, collected)) (omega (arith, account, collected));
      }

  abbrev old_form : List ℕ
  old_form = stored_form Pion new_ledger new_parties

  pub old_ledger_back : stored_ledger Pion (fields_part old_form) ≡ new_ledger
  old_ledger_back =
      ap (stored_ledger Pion) (fields_of_form Pion new_ledger new_parties)
      ∙ ledger_back Pion new_ledger new_parties new_fits placed new_facts.figures.schemes new_facts.figures.entries few new_facts.figures.rest_zero

  pub old_entries_back : stored_entries Pion (fields_part old_form) ≡ new_parties
  old_entries_back =
      ap (stored_entries Pion) (fields_of_form Pion new_ledger new_parties)
      ∙ entries_back Pion new_ledger new_parties new_fits placed new_facts.figures.schemes new_facts.figures.entries few new_facts.figures.rest_zero
      ∙ all_taken

  old_read : old_file_answer old_form ≡ Ok tt
  old_read =
      let figures : sound_figures new_ledger new_parties most_entries ≡ true = mean_figures new_ledger new_parties most_entries new_facts.figures in
      read_found Pion most_entries old_form
      (form_is_found Pion new_ledger new_parties new_fits placed new_facts.figures.schemes new_facts.figures.entries few new_facts.figures.rest_zero)
      ∙ read_done Pion most_entries (fields_part old_form)
      (omega (arith, ap length old_entries_back, as_many Pio2 file bytes new_stands, new_facts.figures.entries))
      (ap₂ (λ ledger parties. sound_figures ledger parties most_entries) old_ledger_back old_entries_back ∙ figures)

  old_taken_back : (out : List ℕ) → move_to_new old_form out ≡ form_end Pio2 new_ledger new_parties out
  old_taken_back out =
      moved_done (old_file_answer old_form) (form_end Pio2 (stored_ledger Pion (fields_part old_form)) (stored_entries Pion (fields_part old_form)) out) out old_read
      ∙ ap₂ (λ ledger parties. form_end Pio2 ledger parties out) old_ledger_back old_entries_back

  old_comes_back : ComesBack move_to_new old_form file
  old_comes_back = comes_back Pio2 new_ledger new_parties file old_form move_to_new (form_is_file Pio2 file bytes new_stands) old_taken_back

-- what the move back has written
module _ (file out : List ℕ) (size : ℕ) (told : (move_back file out).answer ≡ Ok size) where
  pub back_stands : new_file_answer file ≡ Ok tt
  back_stands = (moved_stands (new_file_answer file) Pion (stored_ledger Pio2 (fields_part file)) (stored_entries Pio2 (fields_part file)) out size told).0

  pub back_written : written_of size (move_back file out) ≡ stored_form Pion (stored_ledger Pio2 (fields_part file)) (stored_entries Pio2 (fields_part file))
  back_written =
      let ledger = stored_ledger Pio2 (fields_part file) in
      let parties = stored_entries Pio2 (fields_part file) in
      ap (λ end. take size end.output) (moved_done (new_file_answer file) (form_end Pion ledger parties out) out back_stands)
      ∙ written_is_form Pion ledger parties out size (moved_stands (new_file_answer file) Pion ledger parties out size told).1

pub back_and_moved : (file out : List ℕ) (size : ℕ) → Bytes file → (move_back file out).answer ≡ Ok size →
    ComesBack move_to_new (written_of size (move_back file out)) file
back_and_moved file out size bytes told =
    subst (λ moved. ComesBack move_to_new moved file) (sym (back_written file out size told)) (old_comes_back file bytes (back_stands file out size told))
