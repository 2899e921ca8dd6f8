-- Reading, the call and writing, each over the lent ledger and records, end as the call on stored bytes does: what was read is sound, and the call leaves
-- it so, so that nothing is tested again.
use Rattle.std.specs.Prelude.{Err, Ok, ◌-◌, MatchResult}
use Prim.Native.Nat.{ℕ, ◌+◌, ◌≤◌, min}
use mathlib.Core.Path.{◌≡◌, refl, sym, ap, ap₂, subst, ◌∙◌}
use mathlib.Core.List.{List, [], ◌++◌}
use mathlib.Core.Bool.{true}
use native.Mathlib.Omega.{arith}
use lib.ListN.{length, take, drop, length-take}
use lib.Seq.{take-take, take-append-add}
use Rattle.std.proofs.lemmas.List.{drop-take}
use Rattle.tagged.specs.File.{fields_part, FileAnswer}
use Rattle.ledger.specs.Limits.{most_schemes, most_entries}
use Rattle.ledger.specs.Lists.{at_start}
use Rattle.ledger.specs.Records.{no_parties, new_ledger}
use Rattle.ledger.specs.Sound.{sound}
use Rattle.ledger.proofs.Theorems.Sound.{sound_means, new_ledger_sound}
use Rattle.ledger.specs.declared.records.Party.{Party}
use Rattle.ledger.specs.declared.records.Ledger.{Ledger}
use Rattle.calls.specs.Decision.{Call, CallAnswer}
use Rattle.calls.specs.Carried.{State}
use Rattle.calls.specs.Calls.{state_of, leaves, Fits}
use Rattle.calls.proofs.Theorems.Promised.{promised_answers}
use Rattle.kept_sound.proofs.Theorems.KeptSound.{call_keeps_sound, leaves_length}
use Rattle.calls_on_records.specs.OnRecords.{SoundOnRecords, PromisedOnRecords}
use Rattle.stored.specs.Form.{stored_form, stored_entries, stored_ledger}
use Rattle.stored.proofs.Theorems.StoredAccepted.{accepted_means}
use Rattle.stored.specs.Reading.{ReadBack, ReadEnd, read_answer, read_by, read_back, refused_read, of_reading, table_by}
use Rattle.stored.specs.Writing.{output_by, write_of}
use Rattle.stored.specs.FormOutput.{form_end}
use Rattle.stored.proofs.Theorems.Writing.{write_sound}
use Rattle.stored.proofs.Theorems.SameForm.{same_form}
use Rattle.stored.specs.declared.form.Form.TheVariants.{Pio2}
use Rattle.stored_calls.specs.StoredCalls.{stored_read, end_by, call_on_read, stored_call_of}
use Rattle.stored_calls.proofs.Theorems.StoredCalls.{length_room}
use Rattle.stored_calls.proofs.Theorems.StoredCallsRefusals.{places_read, sound_read}

-- ---- reading

-- what is placed within the first records of a list
at_start_within : {A : Type 0} (elements others : List A) (room : ℕ) → length elements ≤ room →
    take room (at_start elements others) ≡ at_start elements (take room others)
at_start_within elements others room fits =
    let past = room - length elements in
    let whole : length elements + past ≡ room = omega arith in
    rw whole at (take-append-add elements (drop (length elements) others) past ∙ ap (λ l. elements ++ l) (sym (drop-take (length elements) past others)))

-- what is read into a new ledger and its records, by the answer
pub reads : (file : List ℕ) (room : ℕ) {fresh : Ledger} {records : ℕ} → fresh ≡ new_ledger → records ≡ min room most_entries →
    (answer : FileAnswer) (parties : List Party) (ledger : Ledger) → of_reading answer ledger parties ≡ read_back Pio2 fresh records file →
    MatchResult answer (λ _. stored_read file room ≡ record { answer = Ok tt; ledger = ledger; table = take room parties })
    (λ refusal. (stored_read file room).answer ≡ Err refusal)
unfolding stored_read
reads file room new few answer parties ledger e =
    by_answer answer (read_answer Pio2 (min room most_entries) file) refl (e ∙ ap₂ (λ ledger records. read_back Pio2 ledger records file) new few)
  where
    s : List ℕ
    s = fields_part file

    by_room : stored_read file room ≡ table_by (read_answer Pio2 (min room most_entries) file) new_ledger (take room no_parties) s
    by_room = ap (λ records. table_by (read_answer Pio2 records file) new_ledger (take room no_parties) s) (length_room room)

    by_answer : (answer comes : FileAnswer) → read_answer Pio2 (min room most_entries) file ≡ comes → of_reading answer ledger parties ≡ read_by Pio2 comes new_ledger s →
        MatchResult answer (λ _. stored_read file room ≡ record { answer = Ok tt; ledger = ledger; table = take room parties })
        (λ refusal. (stored_read file room).answer ≡ Err refusal)
    by_answer (Ok _) (Ok _) stands e =
        let fits = (accepted_means Pio2 (min room most_entries) file stands).fits in
        by_room ∙ ap (λ answer. table_by answer new_ledger (take room no_parties) s) stands
        ∙ ap (λ table. record { answer = Ok tt; ledger = stored_ledger Pio2 s; table = table })
        (sym (at_start_within (stored_entries Pio2 s) no_parties room (omega (arith, fits))))
        ∙ (λ i. record { answer = Ok tt; ledger = (sym e i).ledger; table = take room (sym e i).parties })
    by_answer (Ok _) (Err r) refused e = let apart = ap (λ (read : ReadBack). read.answer) e in cc
    by_answer (Err r) comes is e =
        ap (λ (end : ReadEnd). end.answer) (by_room ∙ ap (λ answer. table_by answer new_ledger (take room no_parties) s) is)
        ∙ told comes e
      where
        told : (comes : FileAnswer) → refused_read r ledger ≡ read_by Pio2 comes new_ledger s → (table_by comes new_ledger (take room no_parties) s).answer ≡ Err r
        told (Ok _) e = sym (ap (λ (read : ReadBack). read.answer) e)
        told (Err other) e = sym (ap (λ (read : ReadBack). read.answer) e)

-- ---- writing

-- a ledger that is sound with a table is written from any list with the same entries
form_of_sound : (ledger : Ledger) (parties table : List Party) (out : List ℕ) → take ledger.entries parties ≡ take ledger.entries table →
    sound ledger table (length table) ≡ true → form_end Pio2 ledger parties out ≡ write_of ledger table out
form_of_sound ledger parties table out entries holds =
    let form : stored_form Pio2 ledger parties ≡ stored_form Pio2 ledger table = same_form Pio2 parties table refl entries in
    ap₂ (λ form answer. record { answer = answer; output = output_by answer form out }) form (rw form (sym (write_sound ledger table (length table) out holds)))

-- a new ledger has no entries, so it is written from no records as from empty ones
pub new_form : (out : List ℕ) → form_end Pio2 new_ledger [] out ≡ write_of new_ledger no_parties out
new_form out = form_of_sound new_ledger [] no_parties out refl (new_ledger_sound no_parties (length no_parties))

-- ---- a call once the ledger is read

abbrev Reads : List ℕ → ℕ → Ledger → List Party → Type 0
Reads file room ledger parties = stored_read file room ≡ record { answer = Ok tt; ledger = ledger; table = take room parties }

pub sound_here : (file : List ℕ) (room : ℕ) (ledger : Ledger) (parties : List Party) → Reads file room ledger parties → SoundOnRecords room ledger parties
sound_here file room ledger parties same =
    subst (λ (end : ReadEnd). sound end.ledger end.table (length end.table) ≡ true) same (sound_read file room (ap (λ (end : ReadEnd). end.answer) same))

pub places_here : (file : List ℕ) (room : ℕ) (ledger : Ledger) (parties : List Party) → Reads file room ledger parties → length ledger.schemes ≡ most_schemes
places_here file room ledger parties same = subst (λ (end : ReadEnd). length end.ledger.schemes ≡ most_schemes) same (places_read file room)

module _ (file : List ℕ) {room : ℕ} {ledger : Ledger} {parties : List Party} {call : Call} {answer : CallAnswer} {after : Ledger} {left : List Party}
    (promise : PromisedOnRecords room ledger parties call answer after left) (same : Reads file room ledger parties) (fits : Fits call) where
  abbrev before : State
  before = state_of ledger (take room parties)

  places : length ledger.schemes ≡ most_schemes
  places = places_here file room ledger parties same

  kept : sound after (take room left) (length (take room left)) ≡ true
  kept =
      subst (λ (state : State). sound state.ledger state.table (length state.table) ≡ true) (sym promise.promised.leaving)
      (ap (sound (leaves before call).ledger (leaves before call).table) (leaves_length before call places)
      ∙ call_keeps_sound before call places fits (sound_here file room ledger parties same))

  pub counts_kept : (after.count ≤ most_schemes) × (after.entries ≤ most_entries)
  counts_kept = let means = sound_means after (take room left) (length (take room left)) kept in (means.figures.schemes, means.figures.entries)

  pub call_ends : (out : List ℕ) → end_by answer (form_end Pio2 after left out) out ≡ stored_call_of file room call out
  call_ends out =
      let means = sound_means after (take room left) (length (take room left)) kept in
      let entries = take-take after.entries room left (omega (arith, means.figures.in_table, length-take room left)) in
      ap (λ written. end_by answer written out) (form_of_sound after left (take room left) out (sym entries) kept)
      ∙ (λ i. end_by (promised_answers _ _ _ _ promise.promised i) (write_of (promise.promised.leaving i).ledger (promise.promised.leaving i).table out) out)
      ∙ ap (λ end. call_on_read end call out) (sym same)
