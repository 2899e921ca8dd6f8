-- The reconciliation of an acceptance is that of a priced bill, so each of its figures has its place.
use Rattle.std.specs.Prelude.{ℕ, ◌≡◌, refl, Bool, true, false, cond, List, length, Err, Ok}
use Rattle.std.proofs.Common.{sym, ap, subst, ◌∙◌, arith}
use Rattle.numbers.specs.BigEndian.{Bytes}
use Rattle.tagged.specs.File.{refusal, FileAnswer}
use Rattle.tagged.specs.Refusals.{ledger_unsound}
use Rattle.reconciliation.specs.FigureLimits.{FiguresWithin}
use Rattle.charge.specs.Price.{price_of, Pricing}
use Rattle.charge.proofs.Theorems.Bill.{priced_within}
use Rattle.charge.specs.declared.Bill.{Bill}
use Rattle.ledger.specs.Books.{Books}
use Rattle.ledger.specs.Sound.{sound}
use Rattle.calls.specs.Verdict.{verdict, Verdict}
use Rattle.calls.specs.Decision.{accept, refused, decided, decided_by, accept_by, CallAnswer, is_accepted, is_done, is_refused, answer_to}
use Rattle.calls.specs.Carried.{State, books_on}
use Rattle.calls.specs.Calls.{answered, leaves}
use Rattle.calls.specs.declared.answers.Acceptance.{Acceptance}
use Rattle.stored.specs.Writing.{WriteEnd, write_of, Written}
use Rattle.stored_calls.specs.StoredCalls.{StoredCallAnswer, not_read, not_made, made_accepted, made_done, stored_read, written_answer, end_by, once_read, stored_call_of}
use Rattle.stored_calls.proofs.Theorems.StoredCallsRefusals.{state_read}

-- the bill that an acceptance comes from
pub record BilledBy (pricing : Pricing) (acceptance : Acceptance) : Type 0 where
  pub bill : Bill
  pub priced : pricing ≡ Ok bill
  pub same : acceptance.reconciliation ≡ bill.reconciliation

-- what is told apart
other : {A : Type 0} → ◌≡◌ {A = ℕ} 0 1 → A
other e = absurd (omega (arith, e))

abbrev acceptance_in : Acceptance → CallAnswer → Acceptance
acceptance_in default (is_accepted acceptance) = acceptance
acceptance_in default is_done = default
acceptance_in default (is_refused r) = default

module _ (books : Books) (acceptance : Acceptance) where
  of_verdict : (bill : Bill) (v : Verdict) → answer_to books (decided_by books bill v) ≡ is_accepted acceptance → acceptance.reconciliation ≡ bill.reconciliation
  of_verdict bill (Ok course) e = ap (λ told. (acceptance_in acceptance told).reconciliation) (sym e)
  of_verdict bill (Err r) e = other cc

  of_pricing : (pricing : Pricing) → answer_to books (accept_by books pricing) ≡ is_accepted acceptance → BilledBy pricing acceptance
  of_pricing (Ok bill) e = record { bill = bill; priced = refl; same = of_verdict bill (verdict books bill) e }
  of_pricing (Err r) e = other cc

accepted_billed : (state : State) (book request : List ℕ) (acceptance : Acceptance) → answered state (accept book request) ≡ is_accepted acceptance →
    BilledBy (price_of book request) acceptance
unfolding answered
accepted_billed state book request acceptance = by (sound state.ledger state.table (length state.table))
  where
    by : (stands : Bool) → answer_to (books_on state) (cond stands (decided (books_on state) (accept book request)) (refused (refusal ledger_unsound 0 0))) ≡ is_accepted acceptance →
        BilledBy (price_of book request) acceptance
    by true e = of_pricing (books_on state) acceptance (price_of book request) e
    by false e = other cc

abbrev accepted_in : Acceptance → StoredCallAnswer → Acceptance
accepted_in default (not_read r) = default
accepted_in default (not_made r) = default
accepted_in default (made_accepted acceptance size) = acceptance
accepted_in default (made_done size) = default

module _ (file : List ℕ) (table_size : ℕ) (book request out : List ℕ) (acceptance : Acceptance) (size : ℕ) where
  stored_billed : (stored_call_of file table_size (accept book request) out).answer ≡ made_accepted acceptance size → BilledBy (price_of book request) acceptance
  stored_billed = by_reading (stored_read file table_size).answer
    where
      state : State
      state = state_read file table_size

      written : WriteEnd
      written = write_of (leaves state (accept book request)).ledger (leaves state (accept book request)).table out

      by_written : (told : Acceptance) → answered state (accept book request) ≡ is_accepted told → (end : Written) →
          written_answer (made_accepted told) end ≡ made_accepted acceptance size → BilledBy (price_of book request) acceptance
      by_written told q (Ok other) e = accepted_billed state book request acceptance (q ∙ ap (λ end. is_accepted (accepted_in told end)) e)
      by_written told q (Err r) e = other cc

      by_done : (end : Written) → written_answer made_done end ≡ made_accepted acceptance size → BilledBy (price_of book request) acceptance
      by_done (Ok size) e = other cc
      by_done (Err r) e = other cc

      by_answer : (answer : CallAnswer) → answered state (accept book request) ≡ answer →
          (end_by answer written out).answer ≡ made_accepted acceptance size → BilledBy (price_of book request) acceptance
      by_answer (is_accepted told) q e = by_written told q written.answer e
      by_answer is_done q e = by_done written.answer e
      by_answer (is_refused r) q e = other cc

      by_reading : (read : FileAnswer) → (once_read read state (accept book request) out).answer ≡ made_accepted acceptance size →
          BilledBy (price_of book request) acceptance
      by_reading (Ok _) e = by_answer (answered state (accept book request)) refl e
      by_reading (Err r) e = other cc

  pub accepted_bounded : Bytes book → Bytes request → (stored_call_of file table_size (accept book request) out).answer ≡ made_accepted acceptance size →
      FiguresWithin acceptance.reconciliation
  accepted_bounded bytes bytes' e =
      let by = stored_billed e in
      subst FiguresWithin (sym by.same) (priced_within book request by.bill bytes bytes' by.priced).figures
