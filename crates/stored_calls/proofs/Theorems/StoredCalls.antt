-- How long the table is, what a refused call on a stored ledger changes, and that it refuses with these numbers alone.
use Rattle.std.specs.Prelude.{ℕ, min, ◌≡◌, refl, List, true, false, length, take, Err, Ok}
use Rattle.std.proofs.Common.{sym, subst, ◌∙◌, true≢false}
use Rattle.tagged.specs.File.{FileAnswer}
use Rattle.ledger.specs.Limits.{most_entries}
use Rattle.ledger.specs.Records.{no_parties, new_ledger}
use Rattle.ledger.specs.RefusalNumbers.{one_of}
use Rattle.ledger.specs.NumberLists.{Among}
use Rattle.ledger.proofs.Theorems.RefusalNumbers.{one_of_more}
use Rattle.ledger.proofs.Theorems.Table.{length_no_parties}
use Rattle.ledger.specs.declared.records.Party.{Party}
use Rattle.ledger.specs.declared.records.Ledger.{Ledger}
use Rattle.calls.specs.Decision.{Call, accept, pay_out, hand_over, clear, CallAnswer, is_accepted, is_done, is_refused}
use Rattle.calls.specs.Carried.{State}
use Rattle.calls.specs.Calls.{state_of, answered, leaves}
use Rattle.calls.specs.CallRefusals.{call_numbers, Refuses}
use Rattle.calls.proofs.Theorems.Calls.{refusal_numbers}
use Rattle.calls_on_records.proofs.Theorems.OnRecords.{records_length}
use Rattle.stored.specs.declared.form.Form.TheVariants.{Pio2}
use Rattle.stored.specs.Form.{stored_form}
use Rattle.stored.proofs.Theorems.ReadLedger.{read_answer_lem, read_length}
use Rattle.stored.specs.Reading.{read_answer}
use Rattle.stored.specs.StoredNumbers.{reading_numbers}
use Rattle.stored.specs.RefusedWith.{ReadRefuses, writing_numbers, WriteRefuses}
use Rattle.stored.proofs.Theorems.Reading.{read_refusal_numbers}
use Rattle.stored.specs.Writing.{output_by, write_of, Written}
use Rattle.stored.proofs.Theorems.Writing.{write_refusal_numbers}
use Rattle.stored.specs.Writing as writing
use Rattle.stored_calls.specs.StoredCalls.{StoredCheck, StoredCallAnswer, made_accepted, made_done, stored_read, written_answer, written_end, end_by, once_read, stored_call_of, new_stored_of, check_by, check_stored_of}
use Rattle.stored_calls.specs.StoredRefusals.{is_made, stored_numbers}
use Rattle.stored_calls.specs.StoredRefuses.{StoredRefuses}

-- ---- the table has as many records as there is room for, and 512 at most
pub length_room : (room : ℕ) → length (take room no_parties) ≡ min room most_entries
length_room room = records_length no_parties room length_no_parties

pub table_length : (file : List ℕ) (room : ℕ) → length (stored_read file room).table ≡ min room most_entries
unfolding stored_read
table_length file room = read_length new_ledger (take room no_parties) file ∙ length_room room

-- an answer that tells a length was made
abbrev Tells : (ℕ → StoredCallAnswer) → Type 0
Tells told = (size : ℕ) → is_made (told size) ≡ true

written_changes_nothing : (told : ℕ → StoredCallAnswer) → Tells told → (ledger : Ledger) (table : List Party) (out : List ℕ) →
    is_made (written_end told (write_of ledger table out)).answer ≡ false → (written_end told (write_of ledger table out)).output ≡ out
written_changes_nothing told tells ledger table out = by_written (writing.written_answer ledger table (length table) out)
  where
    by_written : (written : Written) → is_made (written_answer told written) ≡ false → output_by written (stored_form Pio2 ledger table) out ≡ out
    by_written (Ok size) h = absurd (true≢false (sym (tells size) ∙ h))
    by_written (Err r) h = refl

module _ (state : State) (call : Call) (out : List ℕ) where
  end_changes_nothing : (answer : CallAnswer) →
      let written = write_of (leaves state call).ledger (leaves state call).table out in
      is_made (end_by answer written out).answer ≡ false → (end_by answer written out).output ≡ out
  end_changes_nothing (is_accepted acceptance) h = written_changes_nothing (made_accepted acceptance) (λ size. refl) (leaves state call).ledger (leaves state call).table out h
  end_changes_nothing is_done h = written_changes_nothing made_done (λ size. refl) (leaves state call).ledger (leaves state call).table out h
  end_changes_nothing (is_refused r) h = refl

  read_changes_nothing : (read : FileAnswer) → is_made (once_read read state call out).answer ≡ false → (once_read read state call out).output ≡ out
  read_changes_nothing (Ok _) h = end_changes_nothing (answered state call) h
  read_changes_nothing (Err r) h = refl

pub stored_refused_changes_nothing : (file : List ℕ) (room : ℕ) (call : Call) (out : List ℕ) → is_made (stored_call_of file room call out).answer ≡ false →
    (stored_call_of file room call out).output ≡ out
stored_refused_changes_nothing file room call out =
    let read = stored_read file room in
    read_changes_nothing (state_of read.ledger read.table) call out read.answer

pub new_refused_changes_nothing : (out : List ℕ) → is_made (new_stored_of out).answer ≡ false → (new_stored_of out).output ≡ out
new_refused_changes_nothing out = written_changes_nothing made_done (λ size. refl) new_ledger no_parties out

abbrev pub StoredCheckRefuses : List ℕ → StoredCheck → Type 0
StoredCheckRefuses numbers (Err r) = one_of numbers r.number ≡ true
StoredCheckRefuses numbers (Ok counts) = Unit {0}

pub answer_of_read : (file : List ℕ) (room : ℕ) → (stored_read file room).answer ≡ read_answer Pio2 (length (take room no_parties)) file
unfolding stored_read
answer_of_read file room = read_answer_lem new_ledger (take room no_parties) file

pub stored_read_refuses : (file : List ℕ) (room : ℕ) → ReadRefuses (stored_read file room).answer
stored_read_refuses file room = subst ReadRefuses (sym (answer_of_read file room)) (read_refusal_numbers Pio2 (length (take room no_parties)) file)

-- each of reading's, the call's and writing's numbers is among them
record Covered (call : Call) (numbers : List ℕ) : Type 0 where
  reading : Among reading_numbers numbers
  calling : Among (call_numbers call) numbers
  writes : Among writing_numbers numbers

covered : (call : Call) → Covered call (stored_numbers call)
covered (accept book request) = record { reading = refl; calling = refl; writes = refl }
covered (pay_out e amount) = record { reading = refl; calling = refl; writes = refl }
covered (hand_over e person) = record { reading = refl; calling = refl; writes = refl }
covered (clear month) = record { reading = refl; calling = refl; writes = refl }

module _ (state : State) (call : Call) (out numbers : List ℕ) (within : Covered call numbers) where
  written_refuses : (told : ℕ → StoredCallAnswer) → ((size : ℕ) → StoredRefuses numbers (told size)) →
      StoredRefuses numbers (written_answer told (write_of (leaves state call).ledger (leaves state call).table out).answer)
  written_refuses told tells =
      by_written (write_of (leaves state call).ledger (leaves state call).table out).answer
      (write_refusal_numbers (leaves state call).ledger (leaves state call).table (length (leaves state call).table) out)
    where
      by_written : (written : Written) → WriteRefuses written → StoredRefuses numbers (written_answer told written)
      by_written (Ok size) h = tells size
      by_written (Err r) h = one_of_more writing_numbers numbers r.number within.writes h

  end_refuses : (answer : CallAnswer) → Refuses (call_numbers call) answer →
      StoredRefuses numbers (end_by answer (write_of (leaves state call).ledger (leaves state call).table out) out).answer
  end_refuses (is_accepted acceptance) h = written_refuses (made_accepted acceptance) (λ size. tt)
  end_refuses is_done h = written_refuses made_done (λ size. tt)
  end_refuses (is_refused r) h = one_of_more (call_numbers call) numbers r.number within.calling h

  read_refuses : (read : FileAnswer) → ReadRefuses read → StoredRefuses numbers (once_read read state call out).answer
  read_refuses (Ok _) h = end_refuses (answered state call) (refusal_numbers state call)
  read_refuses (Err r) h = one_of_more reading_numbers numbers r.number within.reading h

pub stored_refusal_numbers : (file : List ℕ) (room : ℕ) (call : Call) (out : List ℕ) →
    StoredRefuses (stored_numbers call) (stored_call_of file room call out).answer
stored_refusal_numbers file room call out =
    let read = stored_read file room in
    read_refuses (state_of read.ledger read.table) call out (stored_numbers call) (covered call) read.answer (stored_read_refuses file room)

pub check_refusal_numbers : (file : List ℕ) (room : ℕ) → StoredCheckRefuses reading_numbers (check_stored_of file room)
check_refusal_numbers file room = by_read (stored_read file room).answer (stored_read_refuses file room)
  where
    by_read : (answer : FileAnswer) → ReadRefuses answer → StoredCheckRefuses reading_numbers (check_by answer (stored_read file room).ledger)
    by_read (Ok _) h = tt
    by_read (Err r) h = h
