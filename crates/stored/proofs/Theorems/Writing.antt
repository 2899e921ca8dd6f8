-- The cases of writing, in document 01's order; what is written fits; what a refused one changes, and its numbers.
use Rattle.std.specs.Prelude.{ℕ, ◌<◌, ◌≤◌, ◌≡◌, List, Bool, Err, Ok}
use Rattle.std.proofs.Math.Path.{refl}
use Rattle.std.proofs.Common.{ap, ◌∙◌, arith}
use Rattle.std.proofs.Math.Bool.{true, false, cond}
use Rattle.std.proofs.Math.Dec.{leb}
use Rattle.std.proofs.Math.ListN.{length}
use borrow.Author.Tests.{leb-true, le-leb, lt-leb}
use Rattle.tagged.proofs.Theorems.Impossible.{impossible}
use Rattle.tagged.specs.File.{refusal}
use Rattle.tagged.specs.Refusals.{ledger_unsound, output_too_short}
use Rattle.tagged.specs.declared.file.Refusal.{Refusal}
use Rattle.ledger.specs.Lists.{at_start}
use Rattle.ledger.specs.RefusalNumbers.{one_of}
use Rattle.ledger.specs.Sound.{sound}
use Rattle.ledger.specs.declared.records.Party.{Party}
use Rattle.ledger.specs.declared.records.Ledger.{Ledger}
use Rattle.stored.specs.Form.{stored_form}
use Rattle.stored.specs.Writing.{Written, form_answer, written_answer, output_by, written_output, write_of}
use Rattle.stored.specs.RefusedWith.{RefusesWith, writing_numbers, WriteRefuses}
use Rattle.stored.specs.declared.form.Form.{Form}
use Rattle.stored.specs.declared.form.Form.TheVariants.{Pio2}

-- without the soundness test
module _ (form : Form) (ledger : Ledger) (parties : List Party) (out : List ℕ) where
  abbrev bytes : List ℕ
  bytes = stored_form form ledger parties

  pub form_refused_14 : length out < length bytes → form_answer form ledger parties out ≡ Err (refusal output_too_short 0 0)
  form_refused_14 short = rw (lt-leb (length bytes) (length out) short)

  pub form_done : length bytes ≤ length out → form_answer form ledger parties out ≡ Ok (length bytes)
  form_done fits = rw (le-leb (length bytes) (length out) fits)

module _ (form : Form) (ledger : Ledger) (parties : List Party) (out : List ℕ) where
  pub form_refuses_14 : (numbers : List ℕ) → one_of numbers output_too_short ≡ true → RefusesWith numbers (form_answer form ledger parties out)
  form_refuses_14 numbers among = by (leb (length (stored_form form ledger parties)) (length out))
    where
      by : (fits : Bool) → RefusesWith numbers (cond fits (Ok (length (stored_form form ledger parties))) (Err (refusal output_too_short 0 0)))
      by true = tt
      by false = among

module _ (ledger : Ledger) (parties : List Party) (room : ℕ) (out : List ℕ) where
  pub write_refused_13 : sound ledger parties room ≡ false → written_answer ledger parties room out ≡ Err (refusal ledger_unsound 0 0)
  unfolding written_answer
  write_refused_13 unsound = rw unsound

  pub write_sound : sound ledger parties room ≡ true → written_answer ledger parties room out ≡ form_answer Pio2 ledger parties out
  unfolding written_answer
  write_sound holds = rw holds

  pub write_refused_14 : sound ledger parties room ≡ true → length out < length (stored_form Pio2 ledger parties) →
      written_answer ledger parties room out ≡ Err (refusal output_too_short 0 0)
  write_refused_14 holds short = write_sound holds ∙ form_refused_14 Pio2 ledger parties out short

  pub write_done : sound ledger parties room ≡ true → length (stored_form Pio2 ledger parties) ≤ length out →
      written_answer ledger parties room out ≡ Ok (length (stored_form Pio2 ledger parties))
  write_done holds fits = write_sound holds ∙ form_done Pio2 ledger parties out fits

  -- what is written fits the output
  pub written_within : {size : ℕ} → written_answer ledger parties room out ≡ Ok size → size ≤ length out
  unfolding written_answer
  written_within done = by (sound ledger parties room) (leb (length (stored_form Pio2 ledger parties)) (length out)) refl done
    where
      by : {size : ℕ} (holds fits : Bool) → leb (length (stored_form Pio2 ledger parties)) (length out) ≡ fits →
          cond holds (cond fits (Ok (length (stored_form Pio2 ledger parties))) (Err (refusal output_too_short 0 0))) (Err (refusal ledger_unsound 0 0)) ≡ Ok size →
          size ≤ length out
      by {size} true true t e =
          let same : length (stored_form Pio2 ledger parties) ≡ size = cc in
          omega (arith, leb-true (length (stored_form Pio2 ledger parties)) (length out) t)
      by true false t e = impossible cc
      by false fits t e = impossible cc

  -- the output, by the answer
  pub output_refused : {r : Refusal} → written_answer ledger parties room out ≡ Err r → written_output ledger parties room out ≡ out
  output_refused refused = ap (λ answer. output_by answer (stored_form Pio2 ledger parties) out) refused

  pub output_done : {size : ℕ} → written_answer ledger parties room out ≡ Ok size → written_output ledger parties room out ≡ at_start (stored_form Pio2 ledger parties) out
  output_done done = ap (λ answer. output_by answer (stored_form Pio2 ledger parties) out) done

-- a refused write leaves the output as it was
pub refused_write_changes_nothing : (ledger : Ledger) (table : List Party) (out : List ℕ) (r : Refusal) →
    (write_of ledger table out).answer ≡ Err r → (write_of ledger table out).output ≡ out
refused_write_changes_nothing ledger table out r e = output_refused ledger table (length table) out e

pub write_refusal_numbers : (ledger : Ledger) (parties : List Party) (room : ℕ) (out : List ℕ) → WriteRefuses (written_answer ledger parties room out)
unfolding written_answer
write_refusal_numbers ledger parties room out = by (sound ledger parties room) (form_answer Pio2 ledger parties out) (form_refuses_14 Pio2 ledger parties out writing_numbers refl)
  where
    by : (holds : Bool) (written : Written) → WriteRefuses written → WriteRefuses (cond holds written (Err (refusal ledger_unsound 0 0)))
    by true written refuses = refuses
    by false written refuses = refl
