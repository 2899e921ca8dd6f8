-- The endings tell the answers: done or refused by the number, and two different answers never end alike.
use Rattle.std.specs.Prelude.{ℕ, ◌≡◌, refl, List, false, pos, nat_abs, get_or, Err, Ok, is_ok}
use Rattle.std.proofs.Common.{sym, ap}
use Rattle.tagged.specs.Ending.{Ending}
use Rattle.tagged.specs.EndingTests.{number_is_0, Numbered}
use Rattle.tagged.specs.FileEnding.{file_ending}
use Rattle.tagged.proofs.Theorems.Ending.{refused_by_number, refused_not_done, refusal_by_ending, file_answer_by_number}
use Rattle.tagged.specs.File.{FileAnswer}
use Rattle.ledger.specs.RefusalNumbers.{one_of}
use Rattle.ledger.proofs.Theorems.RefusalNumbers.{one_of_positive}
use Rattle.ledger.specs.declared.records.Party.{Party}
use Rattle.ledger.specs.declared.records.Ledger.{Ledger}
use Rattle.stored.specs.declared.form.Form.TheVariants.{Pio2}
use Rattle.stored.specs.Reading.{read_answer}
use Rattle.stored.specs.StoredNumbers.{reading_numbers}
use Rattle.stored.specs.RefusedWith.{ReadRefuses, RefusesWith, writing_numbers}
use Rattle.stored.proofs.Theorems.Reading.{read_refusal_numbers}
use Rattle.stored.specs.Writing.{written_answer, Written}
use Rattle.stored.proofs.Theorems.Writing.{write_refusal_numbers}
use Rattle.stored.specs.StoredEnding.{written_ending, is_written}
use Rattle.stored.specs.Promises.{WriteNumbered}

pub read_numbered : (answer : FileAnswer) → ReadRefuses answer → Numbered answer
read_numbered (Ok _) told = tt
read_numbered (Err r) told = one_of_positive reading_numbers r.number refl told

pub read_by_number : (room : ℕ) (file : List ℕ) → number_is_0 (file_ending (read_answer Pio2 room file)) ≡ is_ok (read_answer Pio2 room file)
read_by_number room file =
    file_answer_by_number (read_answer Pio2 room file) (read_numbered (read_answer Pio2 room file) (read_refusal_numbers Pio2 room file))

pub written_by_number : (written : Written) → WriteNumbered written → number_is_0 (written_ending written) ≡ is_written written
written_by_number (Ok size) numbered = refl
written_by_number (Err r) numbered = refused_by_number r numbered

-- a refusal with one of these numbers is numbered from 1
pub refuses_numbered : (numbers : List ℕ) → one_of numbers 0 ≡ false → (written : Written) → RefusesWith numbers written → WriteNumbered written
refuses_numbered numbers positive (Ok size) told = tt
refuses_numbered numbers positive (Err r) told = one_of_positive numbers r.number positive told

module _ (ledger : Ledger) (parties : List Party) (room : ℕ) (out : List ℕ) where
  pub write_numbered : WriteNumbered (written_answer ledger parties room out)
  write_numbered = refuses_numbered writing_numbers refl (written_answer ledger parties room out) (write_refusal_numbers ledger parties room out)

  pub write_by_number : number_is_0 (written_ending (written_answer ledger parties room out)) ≡ is_written (written_answer ledger parties room out)
  write_by_number = written_by_number (written_answer ledger parties room out) write_numbered

-- ---- the ending tells writing's answer
pub written_by_ending : (answer other : Written) → WriteNumbered answer → WriteNumbered other → written_ending answer ≡ written_ending other → answer ≡ other
written_by_ending (Ok size) (Ok other) numbered others e = ap (λ (ending : Ending). Ok (nat_abs (get_or ending.values 0 (pos 0)))) e
written_by_ending (Ok size) (Err s) numbered others e = absurd (refused_not_done s _ others (sym e))
written_by_ending (Err r) (Ok other) numbered others e = absurd (refused_not_done r _ numbered e)
written_by_ending (Err r) (Err s) numbered others e = ap Err (refusal_by_ending r s e)

pub write_by_ending : (ledger other_ledger : Ledger) (parties other_parties : List Party) (room other_room : ℕ) (out other_out : List ℕ) →
    let answer = written_answer ledger parties room out in
    let other = written_answer other_ledger other_parties other_room other_out in
    written_ending answer ≡ written_ending other → answer ≡ other
write_by_ending ledger other_ledger parties other_parties room other_room out other_out =
    written_by_ending _ _ (write_numbered ledger parties room out) (write_numbered other_ledger other_parties other_room other_out)
