-- What reading and writing promise: document 01's number and values of the answer, and what is lent after it. Refusals are numbered from 1, so that the ending
-- tells the answer.
use Rattle.std.specs.Prelude.{ℕ, ◌≤◌, ◌≡◌, List, Err, Ok}
use Rattle.tagged.specs.File.{FileAnswer}
use Rattle.tagged.specs.EndingTests.{Numbered}
use Rattle.tagged.specs.FileEnding.{file_ending}
use Rattle.ledger.specs.declared.records.Party.{Party}
use Rattle.ledger.specs.declared.records.Ledger.{Ledger}
use Rattle.stored.specs.Reading.{ReadEnd}
use Rattle.stored.specs.Writing.{Written, WriteEnd}
use Rattle.stored.specs.StoredEnding.{written_ending}

pub record ReadPromised (end : ReadEnd) (answer : FileAnswer) (ledger : Ledger) (table : List Party) : Type 0 where
  pub numbered : Numbered answer
  pub ends : file_ending answer ≡ file_ending end.answer
  pub ledger_after : ledger ≡ end.ledger
  pub table_after : table ≡ end.table

abbrev pub WriteNumbered : Written → Type 0
WriteNumbered (Ok size) = Unit {0}
WriteNumbered (Err r) = 1 ≤ r.number

pub record WritePromised (end : WriteEnd) (answer : Written) (output : List ℕ) : Type 0 where
  pub numbered : WriteNumbered answer
  pub ends : written_ending answer ≡ written_ending end.answer
  pub output_after : output ≡ end.output
