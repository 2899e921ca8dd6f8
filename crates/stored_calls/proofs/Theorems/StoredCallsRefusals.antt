-- Once a stored ledger is read and the call itself is not refused, the one refusal left is 14: the calls keep a ledger sound. And when the table's length
-- makes it 9.
use Rattle.std.specs.Prelude.{ℕ, ◌+◌, ◌<◌, ◌≤◌, min, ◌≡◌, refl, List, [], ◌∷◌, Bool, true, false, cond, length, take, leb, ltb, Err, Ok}
use Rattle.std.proofs.Common.{sym, ◌∙◌, ⊎_elim, arith}
use Rattle.std.proofs.Math.Path.{ap}
use mathlib.Mathlib.Data.Bool.Basic.{dichotomy}
use Rattle.std.proofs.lemmas.List.{length-replicate}
use borrow.Author.Tests.{leb-true, leb-false, lt-leb, le-ltb, lt-ltb, ne_eqb}
use Rattle.tagged.specs.File.{fields_part, refusal}
use Rattle.tagged.specs.Refusals.{no_entry_left, output_too_short}
use Rattle.tagged.specs.declared.file.Refusal.{Refusal}
use Rattle.charge.specs.Price.{price_of}
use Rattle.charge.specs.declared.Bill.{Bill}
use Rattle.ledger.specs.Limits.{most_schemes, most_entries, most_connections}
use Rattle.ledger.specs.Records.{no_scheme, no_parties, new_ledger}
use Rattle.ledger.specs.Sound.{sound}
use Rattle.ledger.proofs.Theorems.Sound.{sound_means, new_ledger_sound}
use Rattle.ledger.proofs.Theorems.SameEntries.{sound_in}
use Rattle.ledger.specs.declared.records.Party.{Party}
use Rattle.ledger.specs.declared.records.Ledger.{Ledger}
use Rattle.ledger.specs.Books.{Books}
use Rattle.calls.specs.Verdict.{course_of, entries_needed, entries_lacking, verdict}
use Rattle.calls.specs.Decision.{Call, accept, CallAnswer, is_accepted, is_done, is_refused}
use Rattle.calls.specs.Carried.{State, books_on}
use Rattle.calls.specs.Calls.{state_of, answered, leaves, Fits}
use Rattle.calls.proofs.Theorems.ByPlace.{entries_shown}
use Rattle.kept_sound.proofs.Theorems.KeptSound.{leaves_length, call_keeps_sound}
use Rattle.stored.specs.declared.form.Form.TheVariants.{Pio2}
use Rattle.stored.specs.Form.{stored_form, stored_entries, stored_ledger}
use Rattle.stored.proofs.Theorems.ReadLedger.{entries_count, read_stands, read_places, read_sound}
use Rattle.stored.proofs.Theorems.StoredAccepted.{in_turn_stands, accepted_means}
use Rattle.stored.specs.Reading.{in_turn, form_of_file, table_answer, read_answer}
use Rattle.stored.proofs.Theorems.Reading.{read_refused_9, read_done}
use Rattle.stored.specs.Writing.{write_of, Written}
use Rattle.stored.proofs.Theorems.Writing.{write_refused_14, write_done}
use Rattle.stored_calls.specs.StoredCalls.{StoredCallAnswer, not_read, not_made, made_accepted, made_done, stored_read, written_answer, end_by, once_read, stored_call_of, new_stored_of, check_by, check_stored_of}
use Rattle.stored_calls.proofs.Theorems.StoredCalls.{length_room, table_length, answer_of_read}
use Rattle.stored_calls.specs.StoredRefuses.{StoredRefuses}
use Rattle.stored_calls.specs.StoredCallsRefusals.{EntryNeeded}

-- a sound ledger's
pub write_refusal : (ledger : Ledger) (table : List Party) (out : List ℕ) (r : Refusal) → sound ledger table (length table) ≡ true →
    (write_of ledger table out).answer ≡ Err r → r ≡ refusal output_too_short 0 0
write_refusal ledger table out r holds refused =
    ⊎_elim
    (λ short. let told = write_refused_14 ledger table (length table) out holds (leb-false _ _ short) in cc)
    (λ long.
    let told = write_done ledger table (length table) out holds (leb-true _ _ long) in
    let z : ◌≡◌ {A = ℕ} 0 1 = cc in
    absurd (omega arith))
    (dichotomy (leb (length (stored_form Pio2 ledger table)) (length out)))

pub new_refusal_numbers : (out : List ℕ) → StoredRefuses (output_too_short ∷ []) (new_stored_of out).answer
new_refusal_numbers out =
    by (write_of new_ledger no_parties out).answer (λ r. write_refusal new_ledger no_parties out r (new_ledger_sound no_parties (length no_parties)))
  where
    by : (written : Written) → ((r : Refusal) → written ≡ Err r → r ≡ refusal output_too_short 0 0) → StoredRefuses (output_too_short ∷ []) (written_answer made_done written)
    by (Ok size) only_14 = tt
    by (Err r) only_14 = rw (only_14 r refl)

-- ---- a ledger that was read has 64 places for schemes, and is sound
module _ (file : List ℕ) (room : ℕ) where
  abbrev pub state_read : State
  state_read = state_of (stored_read file room).ledger (stored_read file room).table

  pub places_read : length state_read.ledger.schemes ≡ most_schemes
  unfolding stored_read
  places_read = read_places new_ledger (take room no_parties) file (length-replicate most_schemes no_scheme)

  pub sound_read : (stored_read file room).answer ≡ Ok tt → sound state_read.ledger state_read.table (length state_read.table) ≡ true
  unfolding stored_read
  sound_read stands = read_sound new_ledger (take room no_parties) file stands

-- ---- 14 alone is left
module _ (file : List ℕ) (room : ℕ) (call : Call) where
  abbrev after : State
  after = leaves (state_read file room) call

  pub stored_refused_14 : (out : List ℕ) (r : Refusal) → Fits call → (stored_read file room).answer ≡ Ok tt →
      ((other : Refusal) → answered (state_read file room) call ≡ is_refused other → ⊥) → (stored_call_of file room call out).answer ≡ not_made r →
      r ≡ refusal output_too_short 0 0
  stored_refused_14 out r fits stands not_refused refused =
      let holds = call_keeps_sound (state_read file room) call (places_read file room) fits (sound_read file room stands) in
      write_refusal after.ledger after.table out r
      (ap (sound after.ledger after.table) (leaves_length (state_read file room) call (places_read file room)) ∙ holds)
      (by_answer (answered (state_read file room) call) refl (ap (λ read. (once_read read (state_read file room) call out).answer) (sym stands) ∙ refused))
    where
      by_written : (told : ℕ → StoredCallAnswer) → ((size : ℕ) → told size ≡ not_made r → ⊥) → (written : Written) → written_answer told written ≡ not_made r →
          written ≡ Err r
      by_written told tells (Ok size) e = absurd (tells size e)
      by_written told tells (Err other) e = ap Err (let same : other ≡ r = cc in same)

      by_answer : (answer : CallAnswer) → answered (state_read file room) call ≡ answer →
          (end_by answer (write_of after.ledger after.table out) out).answer ≡ not_made r →
          (write_of after.ledger after.table out).answer ≡ Err r
      by_answer (is_accepted acceptance) q e = by_written (made_accepted acceptance) (λ size e. let z : ◌≡◌ {A = ℕ} 0 1 = cc in omega arith) _ e
      by_answer is_done q e = by_written made_done (λ size e. let z : ◌≡◌ {A = ℕ} 0 1 = cc in omega arith) _ e
      by_answer (is_refused other) q e = absurd (not_refused other q)

-- ---- 9, by the table's length
ledger_of_read : (file : List ℕ) (room : ℕ) → (stored_read file room).answer ≡ Ok tt → (stored_read file room).ledger ≡ stored_ledger Pio2 (fields_part file)
unfolding stored_read
ledger_of_read file room stands = ap (λ end. end.ledger) (read_stands new_ledger (take room no_parties) file stands)

-- a stored ledger that one table has room for, read into another
module _ (file : List ℕ) (other : ℕ) (stands : (stored_read file other).answer ≡ Ok tt) where
  abbrev entries : ℕ
  entries = (stored_read file other).ledger.entries

  entries_stored : entries ≡ length (stored_entries Pio2 (fields_part file))
  entries_stored = ap (λ ledger. ledger.entries) (ledger_of_read file other stands) ∙ entries_count Pio2 (fields_part file)

  answer_by_room : (room : ℕ) → (stored_read file room).answer ≡ table_answer Pio2 (length (take room no_parties)) (fields_part file)
  unfolding read_answer
  answer_by_room room =
      let turns = in_turn_stands (form_of_file Pio2 file) _ (sym (answer_of_read file other) ∙ stands) in
      answer_of_read file room ∙ ap (λ first. in_turn first (table_answer Pio2 (length (take room no_parties)) (fields_part file))) turns.0

  pub short_table_refused : (room : ℕ) → room < entries → (stored_read file room).answer ≡ Err (refusal no_entry_left 0 0)
  short_table_refused room short =
      answer_by_room room
      ∙ read_refused_9 Pio2 (length (take room no_parties)) (fields_part file) (omega (arith, short, entries_stored, length_room room))

  pub long_table_reads : (room : ℕ) → entries ≤ room →
      ((stored_read file room).answer ≡ Ok tt) × ((stored_read file room).ledger ≡ (stored_read file other).ledger)
  long_table_reads room long =
      let s = fields_part file in
      let accepted = accepted_means Pio2 (length (take other no_parties)) file (sym (answer_of_read file other) ∙ stands) in
      let limit = (sound_means (stored_ledger Pio2 s) (stored_entries Pio2 s) (length (take other no_parties)) accepted.holds).figures.entries in
      let fits : length (stored_entries Pio2 s) ≤ length (take room no_parties) = omega (arith, long, limit, entries_count Pio2 s, entries_stored, length_room room) in
      let holds = sound_in (stored_ledger Pio2 s) (stored_entries Pio2 s) (stored_entries Pio2 s) (length (take other no_parties)) (length (take room no_parties)) refl
      (omega (arith, fits, entries_count Pio2 s)) accepted.holds in
      let reads = answer_by_room room ∙ read_done Pio2 (length (take room no_parties)) s fits holds in
      (reads, ledger_of_read file room reads ∙ sym (ledger_of_read file other stands))

  -- what every call answers then, with the output as it was
  module _ (room : ℕ) (short : room < entries) where
    pub short_table_call_refused : (call : Call) (out : List ℕ) →
        stored_call_of file room call out ≡ record { answer = not_read (refusal no_entry_left 0 0); output = out }
    short_table_call_refused call out =
        ap (λ answer. once_read answer (state_of (stored_read file room).ledger (stored_read file room).table) call out) (short_table_refused room short)

    pub short_table_check_refused : check_stored_of file room ≡ Err (refusal no_entry_left 0 0)
    short_table_check_refused = ap (λ answer. check_by answer (stored_read file room).ledger) (short_table_refused room short)

module _ (file : List ℕ) (room : ℕ) (book request out : List ℕ) (bill : Bill) (stands : (stored_read file room).answer ≡ Ok tt)
    (full : min room most_entries ≤ (stored_read file room).ledger.entries) where
  abbrev books : Books
  books = books_on (state_read file room)

  lacking : (needed : ℕ) → 1 ≤ needed → entries_lacking (length books.entries) books.room needed ≡ true
  lacking needed some =
      let facts = sound_means (stored_read file room).ledger (stored_read file room).table _ (sound_read file room stands) in
      let counted : length books.entries ≡ (stored_read file room).ledger.entries =
      entries_shown (stored_read file room).ledger (stored_read file room).table facts.figures.in_table in
      rw (
        ne_eqb needed 0 (λ none. omega arith),
        lt-ltb books.room (length books.entries + needed) (omega (arith, counted, full, table_length file room)),
      )
      (either (ltb most_entries (length books.entries + needed)))
    where
      either : (test : Bool) → cond test true true ≡ true
      either true = refl
      either false = refl

  refuses_9 : EntryNeeded books bill → verdict books bill ≡ Err (refusal no_entry_left 0 0)
  unfolding verdict
  refuses_9 due =
      rw (
        lt-leb most_connections books.connections due.connections,
        le-ltb bill.applicant.month books.month due.month,
        lt-leb books.next_scheme bill.applicant.scheme due.opened,
        due.place_left,
        lacking (entries_needed (course_of books bill)) due.needed,
      )

  pub full_table_refused : price_of book request ≡ Ok bill → EntryNeeded books bill →
      stored_call_of file room (accept book request) out ≡ record { answer = not_made (refusal no_entry_left 0 0); output = out }
  unfolding answered leaves
  full_table_refused priced due =
      ap (λ read. once_read read (state_read file room) (accept book request) out) stands
      ∙ rw (sound_read file room stands, priced, refuses_9 due)
