-- Document 01, 'How calls end': "A refusal .. changes nothing". Whatever isn't done leaves every lent buffer as it was.
use Rattle.std.specs.Prelude.{ℕ, ◌≡◌, refl, Bool, true, false, List, ◌≢◌, ℤ, Err, Ok}
use Rattle.std.proofs.Common.{true≢false, ne_eqb}
use Rattle.charge.specs.Price.{price_of, Pricing}
use Rattle.slip_text.specs.Slip.{slip_written, slip_buffer, SlipWritten}
use Rattle.slip_text.proofs.Theorems.Slip.{refused_slip_changes_nothing}
use Rattle.tagged.specs.declared.file.Refusal.{Refusal}
use Rattle.stored.specs.Writing.{Written, WriteEnd}
use Rattle.stored.proofs.Theorems.MoveEnds.{refused_move_changes_nothing, refused_move_back_changes_nothing}
use Rattle.stored_calls.specs.StoredCalls.{StoredCallAnswer, not_read, not_made, made_accepted, made_done, new_stored_of, stored_call_of}
use Rattle.stored_calls.specs.StoredRefusals.{is_made}
use Rattle.stored_calls.proofs.Theorems.StoredCalls.{stored_refused_changes_nothing, new_refused_changes_nothing}
use Rattle.quoting_unit.specs.Interface.{Lent, outcome_of}
use Rattle.quoting_unit.specs.Unit.{UnitCall, price, slip_text, new_ledger, on_ledger, check_ledger, move_to_new, move_back, move_ending, too_short, Made, price_made, unit_slip_ending, unit_call_ending, figures_by, made, leaves_by, unit_call}
use Rattle.quoting_unit.proofs.Theorems.UnitBuffers.{leaves_if}

-- output and figures are as they were
abbrev Left : Made → Lent → Type 0
Left call lent = (call.output ≡ lent.output) × (call.figures ≡ lent.figures)

price_left : (pricing : Pricing) (lent : Lent) → (outcome_of (price_made pricing lent).ending).result ≢ 0 → Left (price_made pricing lent) lent
price_left (Ok bill) lent refused = absurd (refused refl)
price_left (Err r) lent refused = (refl, refl)

slip_left : (pricing : Pricing) (text : List ℕ) (written : SlipWritten) → slip_written pricing text ≡ written → (outcome_of (unit_slip_ending written)).result ≢ 0 →
    slip_buffer pricing text ≡ text
slip_left pricing text (Ok size) e refused = absurd (refused refl)
slip_left pricing text (Err r) e refused = refused_slip_changes_nothing pricing text r e

-- a call on a stored ledger whose result isn't 0 was not made
not_made_lem : (told : StoredCallAnswer) → (outcome_of (unit_call_ending told)).result ≢ 0 → is_made told ≡ false
not_made_lem (not_read r) refused = refl
not_made_lem (not_made r) refused = refl
not_made_lem (made_accepted acceptance size) refused = absurd (refused refl)
not_made_lem (made_done size) refused = absurd (refused refl)

figures_left : (told : StoredCallAnswer) (figures : List ℤ) → is_made told ≡ false → figures_by told figures ≡ figures
figures_left (not_read r) figures h = refl
figures_left (not_made r) figures h = refl
figures_left (made_accepted acceptance size) figures h = absurd (true≢false h)
figures_left (made_done size) figures h = refl

-- and a move whose result isn't 0 was refused
move_left : {end : WriteEnd} {out : List ℕ} → ((r : Refusal) → end.answer ≡ Err r → end.output ≡ out) → (outcome_of (move_ending end.answer)).result ≢ 0 → end.output ≡ out
move_left {end} {out} keeps refused = by end.answer refl refused
  where
    by : (answer : Written) → end.answer ≡ answer → (outcome_of (move_ending answer)).result ≢ 0 → end.output ≡ out
    by (Ok size) e refused = absurd (refused refl)
    by (Err r) e refused = keeps r e

made_left : (call : UnitCall) (lent : Lent) → (outcome_of (made call lent).ending).result ≢ 0 → Left (made call lent) lent
made_left (price book request) lent refused = price_left (price_of book request) lent refused
made_left (slip_text book request) lent refused =
    (slip_left (price_of book request) lent.output (slip_written (price_of book request) lent.output) refl refused, refl)
made_left new_ledger lent refused =
    let h = not_made_lem (new_stored_of lent.output).answer refused in
    (new_refused_changes_nothing lent.output h, figures_left (new_stored_of lent.output).answer lent.figures h)
made_left (on_ledger stored table_size call) lent refused =
    let told = (stored_call_of stored table_size call lent.output).answer in
    let h = not_made_lem told refused in
    (stored_refused_changes_nothing stored table_size call lent.output h, figures_left told lent.figures h)
made_left (check_ledger stored table_size) lent refused = (refl, refl)
made_left (move_to_new file) lent refused = (move_left (λ r. refused_move_changes_nothing file lent.output r) refused, refl)
made_left (move_back file) lent refused = (move_left (λ r. refused_move_back_changes_nothing file lent.output r) refused, refl)

lent_left : (call : Made) (lent : Lent) → (outcome_of call.ending).result ≢ 0 → Left call lent → (leaves_by call lent).lent ≡ lent
lent_left call lent refused left = rw (left.0, left.1, ne_eqb (outcome_of call.ending).result 0 refused)

pub refused_changes_no_buffer : (call : UnitCall) (lent : Lent) → (unit_call call lent).result ≢ 0 → (unit_call call lent).lent ≡ lent
refused_changes_no_buffer call lent = by (too_short call lent)
  where
    by : (short : Bool) → (leaves_if call lent short).result ≢ 0 → (leaves_if call lent short).lent ≡ lent
    by true refused = refl
    by false refused = lent_left (made call lent) lent refused (made_left call lent refused)
