-- Document 01, 'How calls end': "Writing answers the form's length and leaves output past that alone." Order: 13, 14.
use Rattle.std.specs.Prelude.{ℕ, List, cond, length, leb, Err, Ok, Result}
use Rattle.tagged.specs.File.{refusal}
use Rattle.tagged.specs.Refusals.{ledger_unsound, output_too_short}
use Rattle.ledger.specs.Lists.{at_start}
use Rattle.ledger.specs.Sound.{sound}
use Rattle.ledger.specs.declared.records.Party.{Party}
use Rattle.ledger.specs.declared.records.Ledger.{Ledger}
use Rattle.stored.specs.Form.{stored_form}
use Rattle.stored.specs.declared.form.Form.{Form}
use Rattle.stored.specs.declared.form.Form.TheVariants.{Pio2}
use Rattle.tagged.specs.declared.file.Refusal.{Refusal}

-- the form's length, or the refusal
abbrev pub Written : Type 0
Written = Result ℕ Refusal

-- without the soundness test
abbrev pub form_answer : Form → Ledger → List Party → List ℕ → Written
form_answer form ledger parties out =
    let bytes = stored_form form ledger parties in
    cond (leb (length bytes) (length out)) (Ok (length bytes)) (Err (refusal output_too_short 0 0))

-- the answer, and the output afterwards; `room` is the table's length
unfoldable pub written_answer : Ledger → List Party → ℕ → List ℕ → Written
written_answer ledger parties room out = cond (sound ledger parties room) (form_answer Pio2 ledger parties out) (Err (refusal ledger_unsound 0 0))

-- by the answer: the form at the start of the output, or the output as it was
abbrev pub output_by : Written → List ℕ → List ℕ → List ℕ
output_by (Ok size) form out = at_start form out
output_by (Err r) form out = out

abbrev pub written_output : Ledger → List Party → ℕ → List ℕ → List ℕ
written_output ledger parties room out = output_by (written_answer ledger parties room out) (stored_form Pio2 ledger parties) out

-- The call with a table of any length: its first records are the ledger's entries.
pub record WriteEnd : Type 0 where
  pub answer : Written
  pub output : List ℕ

abbrev pub write_of : Ledger → List Party → List ℕ → WriteEnd
write_of ledger table out =
    record { answer = written_answer ledger table (length table) out; output = written_output ledger table (length table) out }
