-- The laws that the functions of src/ are there for, one statement each; the proofs stand beside the definitions that they are of.
use Rattle.std.specs.Prelude.{ℕ, min, ◌<◌, ◌≤◌, ◌≡◌, List, true, false, length, take, Err, Ok, is_ok}
use Rattle.numbers.specs.BigEndian.{Bytes}
use Rattle.tagged.specs.Refusals.{value_not_listed, no_entry_left, ledger_unsound, output_too_short}
use Rattle.tagged.specs.File.{fields_part, file_answer, refusal, FileAnswer}
use Rattle.tagged.specs.EndingTests.{number_is_0}
use Rattle.tagged.specs.FileEnding.{file_ending}
use Rattle.tagged.specs.declared.file.Refusal.{Refusal}
use Rattle.field_values.specs.Judged.{judge_letters}
use Rattle.charge.specs.Price.{price_of}
use Rattle.charge.specs.declared.Bill.{Bill}
use Rattle.ledger.specs.Limits.{most_entries}
use Rattle.ledger.specs.Lists.{at_start}
use Rattle.ledger.specs.Records.{no_parties}
use Rattle.ledger.specs.declared.records.Party.{Party}
use Rattle.ledger.specs.declared.records.Ledger.{Ledger}
use Rattle.calls.specs.Decision.{Call, accept, is_refused}
use Rattle.calls.specs.Carried.{books_on, entries_on}
use Rattle.calls.specs.Calls.{state_of, answered, leaves, Fits}
use Rattle.stored.specs.FormFields.{FormFits}
use Rattle.stored.specs.Reading.{form_of_file, read_answer, read_of}
use Rattle.stored.specs.StoredRows.{stored_rows}
use Rattle.stored.specs.Form.{letters, stored_entries, stored_ledger}
use Rattle.stored.specs.FormOutput.{form_end}
use Rattle.stored.specs.MoveLaws.{written_of, ComesBack, SameValues}
use Rattle.stored.specs.Moves.{move_to_new, move_back}
use Rattle.stored.specs.OldSound.{old_sound}
use Rattle.stored.specs.RefusedWith.{ReadRefuses, RefusesWith, WriteRefuses, moving_numbers, moving_back_numbers}
use Rattle.stored.specs.StoredEnding.{is_written, written_ending}
use Rattle.stored.specs.Promises.{ReadPromised, WritePromised}
use Rattle.stored.specs.Writing.{Written, written_answer, write_of}
use Rattle.stored.specs.declared.form.Form.{Form}
use Rattle.stored.specs.declared.form.Form.TheVariants.{Pion, Pio2}
use Rattle.stored_calls.specs.StoredCalls.{StoredCheck, StoredCallAnswer, not_read, not_made, stored_read, stored_call_of, new_stored_of, check_stored_of}
use Rattle.stored_calls.specs.StoredCallEnding.{stored_call_ending, stored_check_ending, is_sound}
use Rattle.stored_calls.specs.StoredPromises.{StoredPromised, CheckPromised}
use Rattle.stored_calls.specs.StoredCallsRefusals.{EntryNeeded}
use Rattle.stored_calls.specs.StoredRefusals.{is_made, length_in, stored_numbers}
use Rattle.stored_calls.specs.StoredRefuses.{StoredRefuses}

-- ---- "A written ledger reads back as itself, and an accepted stored ledger writes back as the same bytes."
abbrev pub ReadOfWrite : Type 0
ReadOfWrite =
    (ledger before : Ledger) (table other : List Party) (out : List ℕ) (size : ℕ) → FormFits ledger table →
    (write_of ledger table out).answer ≡ Ok size → ledger.entries ≤ length other →
    read_of before other (take size (write_of ledger table out).output) ≡
    record { answer = Ok tt; ledger = ledger; table = at_start (take ledger.entries table) other }

abbrev pub WriteOfRead : Type 0
WriteOfRead =
    (before : Ledger) (table : List Party) (file out : List ℕ) → Bytes file → (read_of before table file).answer ≡ Ok tt → length file ≤ length out →
    write_of (read_of before table file).ledger (read_of before table file).table out ≡ record { answer = Ok (length file); output = at_start file out }

-- so no two files are one ledger with the same entries
abbrev pub StoredLedgersDiffer : Type 0
StoredLedgersDiffer =
    (before before' : Ledger) (table table' : List Party) (file file' : List ℕ) → Bytes file → Bytes file' →
    (read_of before table file).answer ≡ Ok tt → (read_of before' table' file').answer ≡ Ok tt →
    (read_of before table file).ledger ≡ (read_of before' table' file').ledger →
    take (read_of before table file).ledger.entries (read_of before table file).table ≡
    take (read_of before' table' file').ledger.entries (read_of before' table' file').table →
    file ≡ file'

-- ---- reading and writing: the numbers of their refusals, which change nothing
abbrev pub ReadRefusalNumbers : Type 0
ReadRefusalNumbers = (form : Form) (room : ℕ) (file : List ℕ) → ReadRefuses (read_answer form room file)

-- 3 for the letters of a file whose fields walk
abbrev pub ReadRefused3 : Type 0
ReadRefused3 =
    (form : Form) (room : ℕ) (file : List ℕ) (at : ℕ) → file_answer (stored_rows form) 1 file ≡ Ok tt → judge_letters (letters form) (fields_part file) ≡ Err at →
    read_answer form room file ≡ Err (refusal value_not_listed 1 at)

abbrev pub RefusedReadChangesNothing : Type 0
RefusedReadChangesNothing =
    (ledger : Ledger) (table : List Party) (file : List ℕ) (r : Refusal) →
    (read_of ledger table file).answer ≡ Err r → ((read_of ledger table file).ledger ≡ ledger) × ((read_of ledger table file).table ≡ table)

abbrev pub WriteRefusalNumbers : Type 0
WriteRefusalNumbers = (ledger : Ledger) (parties : List Party) (room : ℕ) (out : List ℕ) → WriteRefuses (written_answer ledger parties room out)

abbrev pub WrittenWithin : Type 0
WrittenWithin = (ledger : Ledger) (parties : List Party) (room : ℕ) (out : List ℕ) (size : ℕ) → written_answer ledger parties room out ≡ Ok size → size ≤ length out

abbrev pub RefusedWriteChangesNothing : Type 0
RefusedWriteChangesNothing =
    (ledger : Ledger) (table : List Party) (out : List ℕ) (r : Refusal) → (write_of ledger table out).answer ≡ Err r → (write_of ledger table out).output ≡ out

-- their endings: number 0 exactly where they are done, and two different answers never end alike
abbrev pub ReadByNumber : Type 0
ReadByNumber = (room : ℕ) (file : List ℕ) → number_is_0 (file_ending (read_answer Pio2 room file)) ≡ is_ok (read_answer Pio2 room file)

abbrev pub WriteByNumber : Type 0
WriteByNumber =
    (ledger : Ledger) (parties : List Party) (room : ℕ) (out : List ℕ) →
    number_is_0 (written_ending (written_answer ledger parties room out)) ≡ is_written (written_answer ledger parties room out)

abbrev pub WriteByEnding : Type 0
WriteByEnding =
    (ledger other_ledger : Ledger) (parties other_parties : List Party) (room other_room : ℕ) (out other_out : List ℕ) →
    let answer = written_answer ledger parties room out in
    let other = written_answer other_ledger other_parties other_room other_out in
    written_ending answer ≡ written_ending other → answer ≡ other

-- so the endings that reading and writing promise tell their answers
abbrev pub PromisedReading : Type 0
PromisedReading =
    (ledger : Ledger) (table : List Party) (file : List ℕ) (answer : FileAnswer) (after : Ledger) (left : List Party) →
    ReadPromised (read_of ledger table file) answer after left → answer ≡ (read_of ledger table file).answer

abbrev pub PromisedWriting : Type 0
PromisedWriting =
    (ledger : Ledger) (table : List Party) (out : List ℕ) (answer : Written) (output : List ℕ) →
    WritePromised (write_of ledger table out) answer output → answer ≡ (write_of ledger table out).answer

-- ---- the moves: "Old to new to old gives the old bytes", refused by nothing but 14, and so the other way round
abbrev pub MovedAndBack : Type 0
MovedAndBack =
    (file out : List ℕ) (size : ℕ) → Bytes file → (move_to_new file out).answer ≡ Ok size → ComesBack move_back (written_of size (move_to_new file out)) file

abbrev pub BackAndMoved : Type 0
BackAndMoved =
    (file out : List ℕ) (size : ℕ) → Bytes file → (move_back file out).answer ≡ Ok size → ComesBack move_to_new (written_of size (move_back file out)) file

-- "Either way, all that both forms hold stays the same."
abbrev pub MoveKeepsValues : Type 0
MoveKeepsValues = (file out : List ℕ) (size : ℕ) → Bytes file → (move_to_new file out).answer ≡ Ok size → SameValues file (written_of size (move_to_new file out))

abbrev pub MoveBackKeepsValues : Type 0
MoveBackKeepsValues = (file out : List ℕ) (size : ℕ) → Bytes file → (move_back file out).answer ≡ Ok size → SameValues (written_of size (move_back file out)) file

-- an old file is refused with 13 exactly where document 01's soundness, by places, fails
abbrev pub OldSound : Type 0
OldSound =
    (file out : List ℕ) → form_of_file Pion file ≡ Ok tt →
    let s = fields_part file in
    let sound = old_sound (stored_ledger Pion s) (stored_entries Pion s) most_entries in
    (sound ≡ false → move_to_new file out ≡ record { answer = Err (refusal ledger_unsound 0 0); output = out })
    × (sound ≡ true → move_to_new file out ≡ form_end Pio2 (stored_ledger Pion s) (stored_entries Pion s) out)

-- the numbers of their refusals, which change nothing
abbrev pub MoveRefusalNumbers : Type 0
MoveRefusalNumbers = (file out : List ℕ) → RefusesWith moving_numbers (move_to_new file out).answer × RefusesWith moving_back_numbers (move_back file out).answer

abbrev pub RefusedMoveChangesNothing : Type 0
RefusedMoveChangesNothing =
    (file out : List ℕ) (r : Refusal) →
    ((move_to_new file out).answer ≡ Err r → (move_to_new file out).output ≡ out) × ((move_back file out).answer ≡ Err r → (move_back file out).output ≡ out)

-- their endings: number 0 exactly where they are done, and what they promise tells their answers
abbrev pub MoveByNumber : Type 0
MoveByNumber =
    (file out : List ℕ) →
    (number_is_0 (written_ending (move_to_new file out).answer) ≡ is_written (move_to_new file out).answer)
    × (number_is_0 (written_ending (move_back file out).answer) ≡ is_written (move_back file out).answer)

abbrev pub PromisedMove : Type 0
PromisedMove =
    (file out : List ℕ) (answer : Written) (output : List ℕ) →
    (WritePromised (move_to_new file out) answer output → answer ≡ (move_to_new file out).answer)
    × (WritePromised (move_back file out) answer output → answer ≡ (move_back file out).answer)

-- ---- the calls on stored bytes: the numbers of their refusals, which change no byte of the output
abbrev pub StoredRefusalNumbers : Type 0
StoredRefusalNumbers =
    (file : List ℕ) (room : ℕ) (call : Call) (out : List ℕ) → StoredRefuses (stored_numbers call) (stored_call_of file room call out).answer

abbrev pub StoredRefusedChangesNothing : Type 0
StoredRefusedChangesNothing =
    (file : List ℕ) (room : ℕ) (call : Call) (out : List ℕ) → is_made (stored_call_of file room call out).answer ≡ false →
    (stored_call_of file room call out).output ≡ out

abbrev pub NewRefusedChangesNothing : Type 0
NewRefusedChangesNothing = (out : List ℕ) → is_made (new_stored_of out).answer ≡ false → (new_stored_of out).output ≡ out

-- where the stored ledger is read and the call isn't refused, only 14 is left
abbrev pub StoredRefused14 : Type 0
StoredRefused14 =
    (file : List ℕ) (room : ℕ) (call : Call) (out : List ℕ) (r : Refusal) → Fits call → (stored_read file room).answer ≡ Ok tt →
    ((other : Refusal) → answered (state_of (stored_read file room).ledger (stored_read file room).table) call ≡ is_refused other → ⊥) →
    (stored_call_of file room call out).answer ≡ not_made r → r ≡ refusal output_too_short 0 0

-- a stored ledger that is read with one length of the table, on a table of another: 9 where it is too short for the entries, otherwise the same ledger
abbrev pub ShortTableRefused : Type 0
ShortTableRefused =
    (file : List ℕ) (other : ℕ) → (stored_read file other).answer ≡ Ok tt → (room : ℕ) → room < (stored_read file other).ledger.entries →
    (stored_read file room).answer ≡ Err (refusal no_entry_left 0 0)

abbrev pub ShortTableCallRefused : Type 0
ShortTableCallRefused =
    (file : List ℕ) (other : ℕ) → (stored_read file other).answer ≡ Ok tt → (room : ℕ) → room < (stored_read file other).ledger.entries →
    (call : Call) (out : List ℕ) → stored_call_of file room call out ≡ record { answer = not_read (refusal no_entry_left 0 0); output = out }

abbrev pub LongTableReads : Type 0
LongTableReads =
    (file : List ℕ) (other : ℕ) → (stored_read file other).answer ≡ Ok tt → (room : ℕ) → (stored_read file other).ledger.entries ≤ room →
    ((stored_read file room).answer ≡ Ok tt) × ((stored_read file room).ledger ≡ (stored_read file other).ledger)

-- and 9 where a request needs an entry and none is left
abbrev pub FullTableRefused : Type 0
FullTableRefused =
    (file : List ℕ) (room : ℕ) (book request out : List ℕ) (bill : Bill) → (stored_read file room).answer ≡ Ok tt →
    min room most_entries ≤ (stored_read file room).ledger.entries → price_of book request ≡ Ok bill →
    EntryNeeded (books_on (state_of (stored_read file room).ledger (stored_read file room).table)) bill →
    stored_call_of file room (accept book request) out ≡ record { answer = not_made (refusal no_entry_left 0 0); output = out }

-- what a done call wrote reads back as the ledger and the entries that it leaves
abbrev pub CallReadsBack : Type 0
CallReadsBack =
    (file : List ℕ) (room : ℕ) (call : Call) (out : List ℕ) → Bytes file → Fits call →
    let end = stored_call_of file room call out in
    let after = leaves (state_of (stored_read file room).ledger (stored_read file room).table) call in
    is_made end.answer ≡ true →
    stored_read (take (length_in end.answer) end.output) room ≡ record { answer = Ok tt; ledger = after.ledger; table = at_start (entries_on after) (take room no_parties) }

-- ---- their endings
abbrev pub StoredByNumber : Type 0
StoredByNumber =
    (file : List ℕ) (room : ℕ) (call : Call) (out : List ℕ) →
    let answer = (stored_call_of file room call out).answer in
    number_is_0 (stored_call_ending answer) ≡ is_made answer

abbrev pub NewByNumber : Type 0
NewByNumber = (out : List ℕ) → number_is_0 (stored_call_ending (new_stored_of out).answer) ≡ is_made (new_stored_of out).answer

abbrev pub CheckByNumber : Type 0
CheckByNumber = (file : List ℕ) (room : ℕ) → number_is_0 (stored_check_ending (check_stored_of file room)) ≡ is_sound (check_stored_of file room)

abbrev pub CheckByEnding : Type 0
CheckByEnding =
    (file other_file : List ℕ) (room other_room : ℕ) →
    stored_check_ending (check_stored_of file room) ≡ stored_check_ending (check_stored_of other_file other_room) →
    check_stored_of file room ≡ check_stored_of other_file other_room

-- so flag and ending, which the calls on stored bytes and their check promise, tell the answers
abbrev pub PromisedStored : Type 0
PromisedStored =
    (file : List ℕ) (room : ℕ) (call : Call) (out : List ℕ) (answer : StoredCallAnswer) (output : List ℕ) →
    StoredPromised (stored_call_of file room call out) answer output → answer ≡ (stored_call_of file room call out).answer

abbrev pub PromisedNew : Type 0
PromisedNew =
    (out : List ℕ) (answer : StoredCallAnswer) (output : List ℕ) → StoredPromised (new_stored_of out) answer output → answer ≡ (new_stored_of out).answer

abbrev pub PromisedCheck : Type 0
PromisedCheck = (file : List ℕ) (room : ℕ) (answer : StoredCheck) → CheckPromised (check_stored_of file room) answer → answer ≡ check_stored_of file room
