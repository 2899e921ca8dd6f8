-- Reading and writing keep their promises, and by these their endings tell the answers.
use Rattle.std.specs.Prelude.{ℕ, ◌≡◌, List, length}
use Rattle.std.proofs.Common.{sym, ap, subst}
use Rattle.tagged.specs.File.{FileAnswer}
use Rattle.tagged.specs.EndingTests.{Numbered}
use Rattle.tagged.specs.FileEnding.{file_ending}
use Rattle.tagged.proofs.Theorems.Ending.{file_answer_by_ending}
use Rattle.ledger.specs.declared.records.Party.{Party}
use Rattle.ledger.specs.declared.records.Ledger.{Ledger}
use Rattle.stored.specs.declared.form.Form.TheVariants.{Pio2}
use Rattle.stored.specs.Reading.{read_answer, read_of}
use Rattle.stored.specs.Writing.{Written, write_of}
use Rattle.stored.specs.StoredEnding.{written_ending}
use Rattle.stored.specs.Promises.{ReadPromised, WriteNumbered, WritePromised}
use Rattle.stored.proofs.Theorems.ReadLedger.{read_answer_lem}
use Rattle.stored.proofs.Theorems.Reading.{read_refusal_numbers}
use Rattle.stored.proofs.Theorems.StoredEnding.{read_numbered, write_numbered, written_by_ending}

end_numbered : (ledger : Ledger) (table : List Party) (file : List ℕ) → Numbered (read_of ledger table file).answer
end_numbered ledger table file =
    subst Numbered (sym (read_answer_lem ledger table file)) (read_numbered (read_answer Pio2 (length table) file) (read_refusal_numbers Pio2 (length table) file))

module _ (ledger : Ledger) (table : List Party) (file : List ℕ) {answer : FileAnswer} {after : Ledger} {left : List Party} where
  pub read_promise : answer ≡ (read_of ledger table file).answer → after ≡ (read_of ledger table file).ledger → left ≡ (read_of ledger table file).table →
      ReadPromised (read_of ledger table file) answer after left
  read_promise answers ledgers tables =
      record {
        numbered = subst Numbered (sym answers) (end_numbered ledger table file);
        ends = ap file_ending answers;
        ledger_after = ledgers;
        table_after = tables;
      }

pub promised_reading : (ledger : Ledger) (table : List Party) (file : List ℕ) (answer : FileAnswer) (after : Ledger) (left : List Party) →
    ReadPromised (read_of ledger table file) answer after left → answer ≡ (read_of ledger table file).answer
promised_reading ledger table file answer after left promise =
    file_answer_by_ending answer (read_of ledger table file).answer promise.numbered (end_numbered ledger table file) promise.ends

module _ (ledger : Ledger) (table : List Party) (out : List ℕ) {answer : Written} {output : List ℕ} where
  pub write_promise : answer ≡ (write_of ledger table out).answer → output ≡ (write_of ledger table out).output →
      WritePromised (write_of ledger table out) answer output
  write_promise answers outputs =
      record {
        numbered = subst WriteNumbered (sym answers) (write_numbered ledger table (length table) out);
        ends = ap written_ending answers;
        output_after = outputs;
      }

pub promised_writing : (ledger : Ledger) (table : List Party) (out : List ℕ) (answer : Written) (output : List ℕ) →
    WritePromised (write_of ledger table out) answer output → answer ≡ (write_of ledger table out).answer
promised_writing ledger table out answer output promise =
    written_by_ending answer (write_of ledger table out).answer promise.numbered (write_numbered ledger table (length table) out) promise.ends
