-- Pay-out and hand-over on a ledger and its entries: the decision on the call, as a change of one record.
use Rattle.std.specs.Prelude.{ℕ, ◌+◌, List, cond, take, get_or, set, Err, None, Ok, Option, Some}
use Rattle.tagged.specs.File.{refusal}
use Rattle.tagged.specs.Refusals.{no_such_entry, ledger_unsound}
use Rattle.tagged.specs.declared.file.Refusal.{Refusal}
use Rattle.ledger.specs.Records.{no_party}
use Rattle.ledger.specs.Books.{books_of}
use Rattle.ledger.specs.EntryPlace.{entry_place}
use Rattle.ledger.specs.Sound.{sound}
use Rattle.ledger.specs.Updates.{with_person, with_paid_out}
use Rattle.ledger.specs.declared.records.Party.{Party}
use Rattle.ledger.specs.declared.records.Ledger.{Ledger}
use Rattle.calls.specs.Decision.{Call, pay_out, hand_over, Decision, accepted, paid_out, handed_over, cleared, refused, decided, Answer}

-- the answer, and an entry's new record with its place; where the call is refused, place 0 and a record of zeros
pub record EntryChange : Type 0 where
  pub answer : Answer
  pub place : ℕ
  pub party : Party

abbrev pub refused_by : Refusal → EntryChange
refused_by r = record { answer = Err r; place = 0; party = no_party }

abbrev pub refused_change : ℕ → EntryChange
refused_change number = refused_by (refusal number 0 0)

abbrev pub done_change : ℕ → Party → EntryChange
done_change place party = record { answer = Ok tt; place = place; party = party }

-- the entry's record changed, at its place
abbrev pub changed_at : List Party → (Party → Party) → Option ℕ → EntryChange
changed_at entries change (Some at) = done_change at (change (get_or entries at no_party))
changed_at entries change None = refused_change no_such_entry

-- a pay-out comes on top of earlier ones
abbrev pub paid_more : ℕ → Party → Party
paid_more amount party = with_paid_out (party.paid_out + amount) party

-- "another person number"
abbrev pub handed_to : ℕ → Party → Party
handed_to person party = with_person person party

-- what a decision on these entries changes; neither call decides that a request is accepted, or that schemes go
abbrev pub change_of : List Party → Decision → EntryChange
change_of entries (accepted bill course credits) = refused_change 0
change_of entries (paid_out s e amount) = changed_at entries (paid_more amount) (entry_place e entries)
change_of entries (handed_over e person) = changed_at entries (handed_to person) (entry_place e entries)
change_of entries (cleared month gone) = refused_change 0
change_of entries (refused r) = refused_by r

-- once 13 is judged
unfoldable pub entry_change : Ledger → List Party → Call → EntryChange
entry_change ledger parties call = change_of (take ledger.entries parties) (decided (books_of ledger parties) call)

-- `parties` are the table's records, at least as many as there are entries; `room` is the table's length
unfoldable pub pay_out_change : Ledger → List Party → ℕ → ℕ → ℕ → EntryChange
pay_out_change ledger parties room entry amount =
    cond (sound ledger parties room) (entry_change ledger parties (pay_out entry amount)) (refused_change ledger_unsound)

unfoldable pub hand_over_change : Ledger → List Party → ℕ → ℕ → ℕ → EntryChange
hand_over_change ledger parties room entry person =
    cond (sound ledger parties room) (entry_change ledger parties (hand_over entry person)) (refused_change ledger_unsound)

-- the table after the call: the record stored at its place where the answer is "done", otherwise as it was
abbrev pub changed_table : List Party → EntryChange → List Party
changed_table table change = changed_by change.answer
  where
    changed_by : Answer → List Party
    changed_by (Ok _) = set table change.place change.party
    changed_by (Err r) = table
