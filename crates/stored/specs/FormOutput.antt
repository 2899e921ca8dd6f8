-- A form in a lent output that has room for it.
use Rattle.std.specs.Prelude.{ℕ, List}
use Rattle.ledger.specs.declared.records.Party.{Party}
use Rattle.ledger.specs.declared.records.Ledger.{Ledger}
use Rattle.stored.specs.Form.{stored_form}
use Rattle.stored.specs.Writing.{form_answer, output_by, WriteEnd}
use Rattle.stored.specs.declared.form.Form.{Form}

abbrev pub form_output : Form → Ledger → List Party → List ℕ → List ℕ
form_output form ledger parties out = output_by (form_answer form ledger parties out) (stored_form form ledger parties) out

-- without the soundness test
abbrev pub form_end : Form → Ledger → List Party → List ℕ → WriteEnd
form_end form ledger parties out = record { answer = form_answer form ledger parties out; output = form_output form ledger parties out }
