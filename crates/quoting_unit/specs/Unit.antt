-- What each call of the unit leaves, by its inputs alone. Where the answer or the figures are too short for their places that is 14 and every buffer as it
-- was; otherwise the result is 0 or the refusal, and where it is 0 the answer says more. `table_size` is the party table's length in records; more than 512
-- counts as 512.
use Rattle.std.specs.Prelude.{ℕ, Bool, true, cond, List, [], ◌∷◌, ℤ, Err, None, Ok, Option, Some}
use Rattle.tagged.specs.Refusals.{output_too_short}
use Rattle.charge.specs.Price.{price_of, Pricing}
use Rattle.slip_text.specs.Slip.{slip_written, slip_buffer, SlipWritten}
use Rattle.calls.specs.Decision.{Call, accept, pay_out, hand_over, clear}
use Rattle.calls.specs.declared.answers.JoiningAnswer.{JoiningAnswer}
use Rattle.calls.specs.declared.answers.JoiningAnswer.TheVariants.{NotAsked, Ended, Small, Joined}
use Rattle.ledger.specs.RefusalNumbers.{one_of}
use Rattle.stored.specs.Moves as moves
use Rattle.stored.specs.StoredNumbers.{reading_numbers}
use Rattle.stored.specs.Writing.{Written, WriteEnd}
use Rattle.stored_calls.specs.StoredCalls.{StoredCheck, StoredCallAnswer, not_read, not_made, made_accepted, made_done, CallEnd, new_stored_of, stored_call_of, check_stored_of}
use Rattle.quoting_unit.specs.Interface.{UnitEnding, is_done, is_refused, outcome_of, Lent, answer_after, figures_after, answer_short, figures_short}

-- the calls: those on a stored ledger with its bytes and the table's length
pub data UnitCall : Type 0 where
  price : List ℕ → List ℕ → UnitCall
  slip_text : List ℕ → List ℕ → UnitCall
  new_ledger : UnitCall
  on_ledger : List ℕ → ℕ → Call → UnitCall
  check_ledger : List ℕ → ℕ → UnitCall
  -- an old file to the new form, and a new one back
  move_to_new : List ℕ → UnitCall
  move_back : List ℕ → UnitCall

-- the figures are lent to price and accept, the answer to all but price
abbrev pub too_short : UnitCall → Lent → Bool
too_short (price book request) lent = figures_short lent
too_short (slip_text book request) lent = answer_short lent
too_short new_ledger lent = answer_short lent
too_short (on_ledger stored table_size (accept book request)) lent = cond (answer_short lent) true (figures_short lent)
too_short (on_ledger stored table_size (pay_out entry amount)) lent = answer_short lent
too_short (on_ledger stored table_size (hand_over entry person)) lent = answer_short lent
too_short (on_ledger stored table_size (clear month)) lent = answer_short lent
too_short (check_ledger stored table_size) lent = answer_short lent
too_short (move_to_new file) lent = answer_short lent
too_short (move_back file) lent = answer_short lent

-- ---- what a call comes to where no place is missing: how it ends, and output and figures after it
pub record Made : Type 0 where
  pub ending : UnitEnding
  pub output : List ℕ
  pub figures : List ℤ

-- price: figures are written only where a reconciliation comes out
abbrev pub price_made : Pricing → Lent → Made
price_made (Ok bill) lent = record { ending = is_done []; output = lent.output; figures = figures_after bill.reconciliation lent.figures }
price_made (Err r) lent = record { ending = is_refused r 0; output = lent.output; figures = lent.figures }

-- the last place of an answer: the bytes that a call has written
abbrev pub written_places : ℕ → List ℕ
written_places size = 0 ∷ 0 ∷ 0 ∷ 0 ∷ size ∷ []

-- the slip's text, which is its output: its length
abbrev pub unit_slip_ending : SlipWritten → UnitEnding
unit_slip_ending (Ok size) = is_done (written_places size)
unit_slip_ending (Err r) = is_refused r 0

-- the number of the scheme that opened, 0 where none did
abbrev pub scheme_opened : Option ℕ → ℕ
scheme_opened None = 0
scheme_opened (Some number) = number

-- Document 02, E4: "The answer gives both." The joining's kind, 0 where none is asked for, 1 joined, 2 small, 3 ended; the joiner's entry and G; the scheme
-- opened; the new form's length.
abbrev pub acceptance_places : JoiningAnswer → Option ℕ → ℕ → List ℕ
acceptance_places NotAsked opening size = 0 ∷ 0 ∷ 0 ∷ scheme_opened opening ∷ size ∷ []
acceptance_places (Joined collected) opening size = 1 ∷ collected.entry ∷ collected.contribution ∷ scheme_opened opening ∷ size ∷ []
acceptance_places Small opening size = 2 ∷ 0 ∷ 0 ∷ scheme_opened opening ∷ size ∷ []
acceptance_places Ended opening size = 3 ∷ 0 ∷ 0 ∷ scheme_opened opening ∷ size ∷ []

-- the new ledger, pay-out, hand-over and clearing tell the new form's length too
abbrev pub unit_call_ending : StoredCallAnswer → UnitEnding
unit_call_ending (not_read r) = is_refused r 1
unit_call_ending (not_made r) = is_refused r 0
unit_call_ending (made_accepted acceptance size) = is_done (acceptance_places acceptance.joining acceptance.opening size)
unit_call_ending (made_done size) = is_done (written_places size)

-- accept: figures are written only where it is accepted
abbrev pub figures_by : StoredCallAnswer → List ℤ → List ℤ
figures_by (not_read r) figures = figures
figures_by (not_made r) figures = figures
figures_by (made_accepted acceptance size) figures = figures_after acceptance.reconciliation figures
figures_by (made_done size) figures = figures

abbrev pub ledger_made : CallEnd → Lent → Made
ledger_made called lent =
    record { ending = unit_call_ending called.answer; output = called.output; figures = figures_by called.answer lent.figures }

-- schemes, entries, connections, the last accepted month
abbrev pub check_ending : StoredCheck → UnitEnding
check_ending (Err r) = is_refused r 1
check_ending (Ok counts) = is_done (counts.schemes ∷ counts.entries ∷ counts.connections ∷ counts.month ∷ 0 ∷ [])

-- document 02, E9: a move tells the form's length; its refusals of the file's bytes and of what they hold are the stored ledger's
abbrev pub of_stored_file : ℕ → ℕ
of_stored_file number = cond (one_of reading_numbers number) 1 0

abbrev pub move_ending : Written → UnitEnding
move_ending (Ok size) = is_done (written_places size)
move_ending (Err r) = is_refused r (of_stored_file r.number)

abbrev pub move_made : WriteEnd → Lent → Made
move_made moved lent = record { ending = move_ending moved.answer; output = moved.output; figures = lent.figures }

abbrev pub made : UnitCall → Lent → Made
made (price book request) lent = price_made (price_of book request) lent
made (slip_text book request) lent =
    let pricing = price_of book request in
    record { ending = unit_slip_ending (slip_written pricing lent.output); output = slip_buffer pricing lent.output; figures = lent.figures }
made new_ledger lent = ledger_made (new_stored_of lent.output) lent
made (on_ledger stored table_size call) lent = ledger_made (stored_call_of stored table_size call lent.output) lent
made (check_ledger stored table_size) lent =
    record { ending = check_ending (check_stored_of stored table_size); output = lent.output; figures = lent.figures }
made (move_to_new file) lent = move_made (moves.move_to_new file lent.output) lent
made (move_back file) lent = move_made (moves.move_back file lent.output) lent

-- ---- what a call leaves: its result, and its lent buffers
pub record CallLeaves : Type 0 where
  pub result : ℕ
  pub lent : Lent

abbrev pub leaves_by : Made → Lent → CallLeaves
leaves_by call lent =
    record {
      result = (outcome_of call.ending).result;
      lent = record { output = call.output; figures = call.figures; answer = answer_after (outcome_of call.ending) lent.answer };
    }

abbrev pub unit_call : UnitCall → Lent → CallLeaves
unit_call call lent = cond (too_short call lent) (record { result = output_too_short; lent = lent }) (leaves_by (made call lent) lent)
