-- What an entry was credited grows in joinings alone: an opening has no credits, and no other decision adds an entering.
use Rattle.std.specs.Prelude.{ℕ, zero, suc, ◌+◌, ◌≡◌, refl, List, [], ◌∷◌, ◌++◌, map, filter, Contains, Bool, true, false, not, ◌⊎◌, leb, ltb, eqb, Err, Ok, None, Option, Some}
use Rattle.std.proofs.Common.{sym, ap, ◌∙◌, inl, inr, arith, eqb-true}
use Rattle.std.proofs.lemmas.Bool.{true≢false}
use Rattle.charge.specs.Price.{price_of, Pricing}
use Rattle.charge.specs.declared.Bill.{Bill}
use Rattle.ledger.specs.RefusalNumbers.{one_of}
use Rattle.ledger.specs.Books.{EntryParticulars, entry_at}
use Rattle.calls.proofs.Theorems.Lists.{by_cond, by_test, cons_if}
use Rattle.calls.specs.Rules.{Credit}
use Rattle.calls.specs.Verdict.{verdict, Verdict}
use Rattle.calls.specs.Decision.{Call, accept, pay_out, hand_over, clear, Decision, credits_by, decided_by, accept_by, pay_out_by, hand_over_by, goes, decided, joining_answer, answer_to}
use Rattle.calls.specs.declared.courses.Joining.{Joining}
use Rattle.calls.specs.declared.courses.Joining.TheVariants.{NotAsked, Ended, Small, Pays}
use Rattle.history.specs.JoinedAnswers.{IsJoined, AnswersJoined}
use Rattle.history.specs.Laws.{NoClearing}
use Rattle.history.specs.History.{Entering, History, account_of, enterings_of, credited_to, books_in, billed_in, joined_in, opener, opened_in, recorded, with_call}
use Rattle.history.proofs.Theorems.SoundHistory.{account_stays, account_goes}

opener_credits : (e : ℕ) (t : Bool) (bill : Bill) (scheme entry : ℕ) (c : List Entering) →
    credited_to e (cons_if t (opener bill scheme entry) c) ≡ credited_to e c
opener_credits e true bill scheme entry c = omega arith
opener_credits e false bill scheme entry c = refl

opened_credits : (s e : ℕ) (now : History) (bill : Bill) (opens : Bool) →
    credited_to e (account_of s (opened_in opens bill now)).entered ≡ credited_to e (account_of s now).entered
opened_credits s e now bill false = refl
opened_credits s e now bill true =
    opener_credits e (eqb now.next_scheme s) bill now.next_scheme now.next_entry (enterings_of s now.entered)

module _ (room : ℕ) (history : History) (s e : ℕ) where
  joined_credits : (bill : Bill) (credits : List Credit) (joining : Joining) → (IsJoined (joining_answer (books_in room history) joining) → ⊥) →
      credited_to e (account_of s (joined_in joining credits bill (billed_in bill history))).entered ≡ credited_to e (account_of s history).entered
  joined_credits bill credits NotAsked other = refl
  joined_credits bill credits Ended other = refl
  joined_credits bill credits Small other = refl
  joined_credits bill credits (Pays paid) other = absurd (other tt)

  abbrev Credits : Decision → Type 0
  Credits d =
      (AnswersJoined (answer_to (books_in room history) d) → ⊥) →
      credited_to e (account_of s (recorded history d)).entered ≡ credited_to e (account_of s history).entered

  accept_credits : (pricing : Pricing) → Credits (accept_by (books_in room history) pricing)
  accept_credits (Ok bill) = by_verdict (verdict (books_in room history) bill)
    where
      by_verdict : (v : Verdict) → Credits (decided_by (books_in room history) bill v)
      by_verdict (Ok course) =
          λ other.
          let credits = credits_by (books_in room history) bill course.joining in
          opened_credits s e (joined_in course.joining credits bill (billed_in bill history)) bill course.opens
          ∙ joined_credits bill credits course.joining other
      by_verdict (Err r) = λ other. refl
  accept_credits (Err r) = λ other. refl

  -- a call that is no clearing and isn't answered "joined" credits no entry of any scheme
  pub credited_in_joinings : (call : Call) → NoClearing call → Credits (decided (books_in room history) call)
  credited_in_joinings (accept book request) none = accept_credits (price_of book request)
  credited_in_joinings (pay_out entry amount) none = by_entry (entry_at (books_in room history) entry)
    where
      by_entry : (at : Option EntryParticulars) → Credits (pay_out_by at amount)
      by_entry None = λ other. refl
      by_entry (Some row) = by_cond Credits (leb (row.paid_out + amount) row.credited) _ _ (λ enough other. refl) (λ above other. refl)
  credited_in_joinings (hand_over entry person) none = by_entry (entry_at (books_in room history) entry)
    where
      by_entry : (at : Option EntryParticulars) → Credits (hand_over_by at person)
      by_entry None = λ other. refl
      by_entry (Some row) = λ other. refl
  credited_in_joinings (clear month) none = absurd none

-- one of the numbers has its image among all of theirs
contains_of : {A : Type 0} (f : ℕ → A) (numbers : List ℕ) (others : List A) (s : ℕ) → not (one_of numbers s) ≡ false →
    Contains (map f numbers ++ others) (f s)
contains_of f [] others s none = absurd (true≢false none)
contains_of f (number ∷ numbers) others s among =
    by_test (eqb s number)
    (λ same. (zero, omega arith, ap f (sym (eqb-true s number same))))
    (λ differs. let later = contains_of f numbers others s (rw differs at among) in (suc later.0, omega (arith, later.1), later.2))

-- a clearing takes accounts whole
pub cleared_whole : (room : ℕ) (history : History) (month s : ℕ) → let after = with_call room history (clear month) in
    (account_of s after ≡ account_of s history)
    ⊎ ((account_of s after ≡ record { entered = []; paid = [] }) × Contains after.cleared (account_of s history))
cleared_whole room history month s =
    by_cond
    (λ d. let after = recorded history d in
    (account_of s after ≡ account_of s history)
    ⊎ ((account_of s after ≡ record { entered = []; paid = [] }) × Contains after.cleared (account_of s history)))
    (ltb month history.month) _ _ (λ early. inl refl)
    (λ in_order.
    let gone = map (λ row. row.number) (filter (goes (books_in room history) month) (books_in room history).schemes) in
    by_test (not (one_of gone s)) (λ stays. inl (account_stays month gone history s stays)) (λ all_go. inr (account_goes month gone history s all_go, contains_of (λ n. account_of n history) gone history.cleared s all_go)))
