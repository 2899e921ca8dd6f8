-- The calls on a ledger that is kept as its stored bytes: reading, the call and writing in turn. Document 01, 'How calls end': a refusal leaves the
-- output as it was; 14 where it is shorter than the new form.
use Rattle.std.specs.Prelude.{ℕ, List, take, Err, Ok, Result}
use Rattle.tagged.specs.declared.file.Refusal.{Refusal}
use Rattle.tagged.specs.File.{FileAnswer}
use Rattle.ledger.specs.Records.{no_parties, new_ledger}
use Rattle.ledger.specs.declared.records.Ledger.{Ledger}
use Rattle.calls.specs.Decision.{Call, CallAnswer, is_accepted, is_done, is_refused}
use Rattle.calls.specs.Carried.{State}
use Rattle.calls.specs.Calls.{state_of, answered, leaves}
use Rattle.calls.specs.declared.answers.Acceptance.{Acceptance}
use Rattle.stored.specs.Reading.{ReadEnd, read_of}
use Rattle.stored.specs.Writing.{WriteEnd, write_of, Written}
use Rattle.stored_calls.specs.declared.StoredCounts.{StoredCounts}
use Rattle.stored_calls.specs.declared.StoredAcceptance.{StoredAcceptance}
use Rattle.stored_calls.specs.declared.StoredRefusal.{StoredRefusal}
use Rattle.stored_calls.specs.declared.StoredRefusal.TheVariants.{NotRead, NotMade}

-- ---- what a call answers
pub data StoredCallAnswer : Type 0 where
  -- reading's refusal: file 1 is the stored ledger
  not_read : Refusal → StoredCallAnswer
  -- the call's own or 14: file 1 is the rate book, 2 the request
  not_made : Refusal → StoredCallAnswer
  -- with the new form's length
  made_accepted : Acceptance → ℕ → StoredCallAnswer
  made_done : ℕ → StoredCallAnswer

abbrev pub refused_by : StoredRefusal → StoredCallAnswer
refused_by (NotRead r) = not_read r
refused_by (NotMade r) = not_made r

-- the new form's length with the acceptance, or the refusal
abbrev pub StoredAccept : Type 0
StoredAccept = Result StoredAcceptance StoredRefusal

abbrev pub of_stored_accept : StoredAccept → StoredCallAnswer
of_stored_accept (Err refusal) = refused_by refusal
of_stored_accept (Ok done) = made_accepted done.acceptance done.length

-- the new form's length, or the refusal
abbrev pub StoredAnswer : Type 0
StoredAnswer = Result ℕ StoredRefusal

abbrev pub of_stored_answer : StoredAnswer → StoredCallAnswer
of_stored_answer (Err refusal) = refused_by refusal
of_stored_answer (Ok size) = made_done size

-- the answer, and the lent output after it
pub record CallEnd : Type 0 where
  pub answer : StoredCallAnswer
  pub output : List ℕ

-- ---- reading

-- a stored ledger, read into a table of so many records, 512 at most
unfoldable pub stored_read : List ℕ → ℕ → ReadEnd
stored_read file room = read_of new_ledger (take room no_parties) file

-- ---- the call, and writing what it leaves

-- an answer that tells the form's length, or 14
abbrev pub written_answer : (ℕ → StoredCallAnswer) → Written → StoredCallAnswer
written_answer told (Ok size) = told size
written_answer told (Err r) = not_made r

abbrev pub written_end : (ℕ → StoredCallAnswer) → WriteEnd → CallEnd
written_end told written = record { answer = written_answer told written.answer; output = written.output }

-- by the call's answer: what was written, or the output as it was
abbrev pub end_by : CallAnswer → WriteEnd → List ℕ → CallEnd
end_by (is_accepted acceptance) written out = written_end (made_accepted acceptance) written
end_by is_done written out = written_end made_done written
end_by (is_refused r) written out = record { answer = not_made r; output = out }

abbrev pub call_end : State → Call → List ℕ → CallEnd
call_end state call out = end_by (answered state call) (write_of (leaves state call).ledger (leaves state call).table out) out

-- the call once the ledger was read, or reading's refusal with the output as it was
abbrev pub once_read : FileAnswer → State → Call → List ℕ → CallEnd
once_read (Ok _) state call out = call_end state call out
once_read (Err r) state call out = record { answer = not_read r; output = out }

abbrev pub call_on_read : ReadEnd → Call → List ℕ → CallEnd
call_on_read read call out = once_read read.answer (state_of read.ledger read.table) call out

abbrev pub stored_call_of : List ℕ → ℕ → Call → List ℕ → CallEnd
stored_call_of file room call out = call_on_read (stored_read file room) call out

-- ---- a new ledger, and the check of a stored one
abbrev pub new_stored_of : List ℕ → CallEnd
new_stored_of out = written_end made_done (write_of new_ledger no_parties out)

abbrev pub counts_of : Ledger → StoredCounts
counts_of ledger =
    record {
      month = ledger.month;
      connections = ledger.connections;
      charged = ledger.charged;
      borne = ledger.borne;
      schemes = ledger.count;
      entries = ledger.entries;
    }

abbrev pub StoredCheck : Type 0
StoredCheck = Result StoredCounts Refusal

abbrev pub check_by : FileAnswer → Ledger → StoredCheck
check_by (Ok _) ledger = Ok (counts_of ledger)
check_by (Err r) ledger = Err r

abbrev pub check_stored_of : List ℕ → ℕ → StoredCheck
check_stored_of file room = check_by (stored_read file room).answer (stored_read file room).ledger
