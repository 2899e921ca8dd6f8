-- What a done call writes reads back as the ledger and the entries that the call leaves: a stored ledger that was read has each value within its width, and
-- calls keep it so. The records past the last entry are empty then, since the table is made anew.
use Rattle.std.specs.Prelude.{ℕ, ◌≡◌, true, length, take, Err, Ok}
use mathlib.Core.List.{List, [], ◌∷◌, Memᴰ}
use Rattle.std.proofs.Math.Path.{refl, ap}
use Rattle.std.proofs.Common.{sym, subst, ◌∙◌, arith, take_all, le_refl}
use Rattle.std.proofs.lemmas.Bool.{false≢true}
use Rattle.numbers.specs.BigEndian.{Bytes}
use Rattle.tagged.specs.File.{fields_part, FileAnswer}
use Rattle.ledger.specs.Lists.{All, nil, more, at_start}
use Rattle.ledger.specs.Records.{no_parties, new_ledger}
use Rattle.ledger.specs.SoundConditions.{SoundLedger}
use Rattle.ledger.proofs.Theorems.Sound.{sound_means}
use Rattle.ledger.specs.declared.records.Party.{Party}
use Rattle.calls.specs.Decision.{Call, CallAnswer, is_accepted, is_done, is_refused}
use Rattle.calls.specs.Carried.{State, entries_on}
use Rattle.calls.specs.Calls.{state_of, answered, leaves, Fits}
use Rattle.kept_sound.specs.Kept.{PersonFits, Kept}
use Rattle.kept_sound.proofs.Theorems.KeptByCalls.{call_kept}
use Rattle.stored.proofs.Theorems.Layout.{take_at_start}
use Rattle.stored.specs.Form.{stored_entries, stored_ledger}
use Rattle.stored.specs.FormFields.{FormFits}
use Rattle.stored.proofs.Theorems.ReadFits.{read_fits}
use Rattle.stored.proofs.Theorems.ReadLedger.{read_accepted, read_stands}
use Rattle.stored.specs.Writing.{write_of, Written}
use Rattle.stored.proofs.Theorems.RoundTrips.{written_sound, read_of_write}
use Rattle.stored.specs.declared.form.Form.TheVariants.{Pio2}
use Rattle.stored_calls.specs.StoredCalls.{StoredCallAnswer, made_accepted, made_done, CallEnd, stored_read, written_answer, end_by, once_read, stored_call_of}
use Rattle.stored_calls.proofs.Theorems.StoredCalls.{length_room, table_length}
use Rattle.stored_calls.specs.StoredRefusals.{is_made, length_in}
use Rattle.stored_calls.proofs.Theorems.StoredCallsRefusals.{state_read, sound_read}
use Rattle.stored_calls.proofs.Theorems.FormFits.{form_fits_of_kept}

-- what holds of each element
all_among : {A : Type 0} {P : A → Type 0} {xs : List A} → ((x : A) → Memᴰ x xs → P x) → All P xs
all_among {xs = []} each = nil
all_among {xs = x ∷ xs} each = more (each x (Memᴰ.head refl)) (all_among (λ y among. each y (Memᴰ.tail among)))

-- ---- what was read is as calls keep it
module _ (file : List ℕ) (room : ℕ) (bytes : Bytes file) (stands : (stored_read file room).answer ≡ Ok tt) where
  abbrev s : List ℕ
  s = fields_part file

  abbrev start : List Party
  start = take room no_parties

  abbrev found : State
  found = state_of (stored_ledger Pio2 s) (at_start (stored_entries Pio2 s) start)

  was_read : state_read file room ≡ found
  unfolding stored_read
  was_read = ap (λ end. state_of end.ledger end.table) (read_stands new_ledger start file stands)

  -- each value within its width
  fits : FormFits (stored_ledger Pio2 s) (stored_entries Pio2 s)
  unfolding stored_read
  fits = read_fits Pio2 file bytes (read_accepted new_ledger start file stands).found

  entries_read : entries_on found ≡ stored_entries Pio2 s
  unfolding stored_ledger
  entries_read = take_at_start (stored_entries Pio2 s) start

  all_read : take (stored_ledger Pio2 s).entries (stored_entries Pio2 s) ≡ stored_entries Pio2 s
  unfolding stored_ledger
  all_read = take_all (length (stored_entries Pio2 s)) (stored_entries Pio2 s) (le_refl _)

  kept_found : length found.table ≡ length start → SoundLedger found.ledger found.table (length found.table) → Kept (length start) found
  kept_found long facts =
      record {
        places = fits.places;
        month = fits.head_fits.0;
        terms = all_among (λ scheme among. (fits.schemes_fit scheme among).1.1.1.1.1.0);
        persons =
            subst (All PersonFits) (sym entries_read)
            (all_among (λ party among. (fits.parties_fit party (subst (Memᴰ party) (sym all_read) among)).1.1.0));
        in_places = facts.figures.schemes;
        in_table = facts.figures.in_table;
        as_long = long;
      }

  kept_of_read : Kept (length start) (state_read file room)
  kept_of_read =
      subst (Kept (length start)) (sym was_read)
      (kept_found
      (ap (λ state. length state.table) (sym was_read) ∙ table_length file room ∙ sym (length_room room))
      (subst (λ state. SoundLedger state.ledger state.table (length state.table)) was_read
      (sound_means (state_read file room).ledger (state_read file room).table (length (state_read file room).table) (sound_read file room stands))))

-- ---- reading back

module _ (file : List ℕ) (room : ℕ) (call : Call) (out : List ℕ) where
  -- what the call comes to
  abbrev pub after : State
  after = leaves (state_read file room) call

  abbrev ReadsBack : CallEnd → Type 0
  ReadsBack end =
      is_made end.answer ≡ true →
      stored_read (take (length_in end.answer) end.output) room ≡ record { answer = Ok tt; ledger = after.ledger; table = at_start (entries_on after) (take room no_parties) }

  -- From any stored ledger and with any output: of the bytes only that they are below 256, and of the call that its values are within their widths.
  pub call_reads_back : Bytes file → Fits call → ReadsBack (stored_call_of file room call out)
  unfolding stored_read
  call_reads_back bytes fits = by_read (stored_read file room).answer refl
    where
      by_size : (stored_read file room).answer ≡ Ok tt → (size : ℕ) → (write_of after.ledger after.table out).answer ≡ Ok size →
          stored_read (take size (write_of after.ledger after.table out).output) room
          ≡ record { answer = Ok tt; ledger = after.ledger; table = at_start (entries_on after) (take room no_parties) }
      by_size stands size w =
          let kept = call_kept (kept_of_read file room bytes stands) call fits in
          let holds = written_sound after.ledger after.table (length after.table) out size w in
          let facts = sound_means after.ledger after.table (length after.table) holds in
          read_of_write after.ledger new_ledger after.table (take room no_parties) out size (form_fits_of_kept (length (take room no_parties)) after kept facts) w
          (omega (arith, facts.figures.in_table, kept.as_long))

      by_written : (stored_read file room).answer ≡ Ok tt → (told : ℕ → StoredCallAnswer) → ((size : ℕ) → length_in (told size) ≡ size) →
          (written : Written) → (write_of after.ledger after.table out).answer ≡ written →
          ReadsBack (record { answer = written_answer told written; output = (write_of after.ledger after.table out).output })
      by_written stands told tells (Ok size) w h =
          ap (λ n. stored_read (take n (write_of after.ledger after.table out).output) room) (tells size) ∙ by_size stands size w
      by_written stands told tells (Err r) w h = absurd (false≢true h)

      by_answer : (stored_read file room).answer ≡ Ok tt → (answer : CallAnswer) →
          ReadsBack (end_by answer (write_of after.ledger after.table out) out)
      by_answer stands (is_accepted acceptance) h =
          by_written stands (made_accepted acceptance) (λ size. refl) (write_of after.ledger after.table out).answer refl h
      by_answer stands is_done h = by_written stands made_done (λ size. refl) (write_of after.ledger after.table out).answer refl h
      by_answer stands (is_refused r) h = absurd (false≢true h)

      by_read : (answer : FileAnswer) → (stored_read file room).answer ≡ answer → ReadsBack (once_read answer (state_read file room) call out)
      by_read (Ok _) stands h = by_answer stands (answered (state_read file room) call) h
      by_read (Err r) stands h = absurd (false≢true h)
