-- What holds of every decision on some books, by its kind, with what the books showed when it was made.
use Rattle.std.specs.Prelude.{ℕ, ◌+◌, ◌≤◌, ◌≡◌, refl, List, map, filter, leb, ltb, Err, Ok, None, Some, Option}
use Rattle.std.proofs.Common.{leb-true, ltb-false}
use Rattle.tagged.specs.declared.file.Refusal.{Refusal}
use Rattle.charge.specs.Price.{price_of, Pricing}
use Rattle.charge.specs.declared.Bill.{Bill}
use Rattle.ledger.specs.Books.{EntryParticulars, Books, entry_at}
use Rattle.calls.specs.Verdict.{verdict, Verdict}
use Rattle.calls.specs.Decision.{Call, accept, pay_out, hand_over, clear, Decision, accepted, paid_out, handed_over, cleared, refused, goes, credits_by, decided_by, accept_by, pay_out_by, hand_over_by, decided}
use Rattle.calls.proofs.Theorems.Lists.{by_cond}
use Rattle.calls.proofs.Theorems.VerdictConditions.{CourseConditions, VerdictConditions, verdict_conditions}
use Rattle.calls.specs.declared.courses.Course.{Course}

-- `Known` is what is known of the call, `P` what is to hold of the decision
pub record EachDecision (Known : Call → Type 0) (books : Books) (P : Decision → Type 0) : Type 0 where
  pub refuses : (r : Refusal) → P (refused r)
  pub accepts : (book request : List ℕ) → Known (accept book request) → (bill : Bill) → price_of book request ≡ Ok bill → (course : Course) →
      CourseConditions books bill course → P (accepted bill course (credits_by books bill course.joining))
  pub pays_out : (e amount : ℕ) (row : EntryParticulars) → entry_at books e ≡ Some row → row.paid_out + amount ≤ row.credited →
      P (paid_out row.scheme row.number amount)
  pub hands_over : (e person : ℕ) → Known (hand_over e person) → (row : EntryParticulars) → entry_at books e ≡ Some row → P (handed_over row.number person)
  pub clears : (month : ℕ) → Known (clear month) → books.month ≤ month →
      P (cleared month (map (λ row. row.number) (filter (goes books month) books.schemes)))

pub by_decision : {Known : Call → Type 0} {books : Books} {P : Decision → Type 0} → EachDecision Known books P → (call : Call) → Known call →
    P (decided books call)
by_decision {books} {P} each (accept book request) known = priced (price_of book request) refl
  where
    priced : (pricing : Pricing) → price_of book request ≡ pricing → P (accept_by books pricing)
    priced (Ok bill) is = judged (verdict books bill) (verdict_conditions books bill)
      where
        judged : (v : Verdict) → VerdictConditions books bill v → P (decided_by books bill v)
        judged (Ok course) has = each.accepts book request known bill is course has
        judged (Err number) has = each.refuses _
    priced (Err r) is = each.refuses r
by_decision {books} {P} each (pay_out e amount) known = at_entry (entry_at books e) refl
  where
    at_entry : (at : Option EntryParticulars) → entry_at books e ≡ at → P (pay_out_by at amount)
    at_entry None is = each.refuses _
    at_entry (Some row) is =
        by_cond P (leb (row.paid_out + amount) row.credited) _ _ (λ enough. each.pays_out e amount row is (leb-true _ _ enough))
        (λ above. each.refuses _)
by_decision {books} {P} each (hand_over e person) known = at_entry (entry_at books e) refl
  where
    at_entry : (at : Option EntryParticulars) → entry_at books e ≡ at → P (hand_over_by at person)
    at_entry None is = each.refuses _
    at_entry (Some row) is = each.hands_over e person known row is
by_decision {books} {P} each (clear month) known =
    by_cond P (ltb month books.month) _ _ (λ early. each.refuses _) (λ in_order. each.clears month known (ltb-false _ _ in_order))
