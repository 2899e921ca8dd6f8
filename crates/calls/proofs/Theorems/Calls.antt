-- What holds of every call alike: a refusal changes nothing and has one of its call's numbers.
use Rattle.std.specs.Prelude.{ℕ, ◌+◌, ◌≡◌, refl, List, true, length, leb, ltb, Err, Ok, None, Some, Option}
use Rattle.tagged.proofs.Theorems.Impossible.{impossible}
use Rattle.tagged.specs.Refusals.{ledger_unsound}
use Rattle.tagged.specs.declared.file.Refusal.{Refusal}
use Rattle.charge.specs.Price.{price_of, Pricing}
use Rattle.charge.proofs.Theorems.PriceRefusals.{pricing_refusal_numbers}
use Rattle.charge.specs.declared.Bill.{Bill}
use Rattle.ledger.specs.Books.{EntryParticulars, Books, entry_at}
use Rattle.ledger.specs.Sound.{sound}
use Rattle.ledger.specs.RefusalNumbers.{one_of, one_to}
use Rattle.ledger.specs.NumberLists.{Among}
use Rattle.ledger.proofs.Theorems.RefusalNumbers.{one_of_more, within_one_to}
use Rattle.calls.specs.Decision.{Call, CallAnswer, accept, pay_out, hand_over, clear, Decision, accepted, paid_out, handed_over, cleared, refused, decided_by, accept_by, pay_out_by, hand_over_by, decided, is_accepted, is_done, is_refused, answer_to}
use Rattle.calls.specs.Carried.{State, books_on, carried_out}
use Rattle.calls.specs.Calls.{answered, leaves, decided_on}
use Rattle.calls.proofs.Theorems.Lists.{by_cond}
use Rattle.calls.specs.Verdict.{verdict, Verdict}
use Rattle.calls.specs.VerdictConditions.{verdict_numbers}
use Rattle.calls.proofs.Theorems.VerdictConditions.{verdict_by}
use Rattle.calls.specs.CallRefusals.{rule_numbers, call_numbers, Refuses}

refused_leaves : (state : State) (books : Books) (decision : Decision) {r : Refusal} → answer_to books decision ≡ is_refused r → carried_out state decision ≡ state
refused_leaves state books (accepted bill course credits) e = impossible cc
refused_leaves state books (paid_out s entry amount) e = impossible cc
refused_leaves state books (handed_over entry person) e = impossible cc
refused_leaves state books (cleared month gone) e = impossible cc
refused_leaves state books (refused r) e = refl

-- "A refusal returns number, file .. and place, and changes nothing."
pub refused_changes_nothing : (state : State) (call : Call) (r : Refusal) → answered state call ≡ is_refused r → leaves state call ≡ state
unfolding answered leaves
refused_changes_nothing state call r e = refused_leaves state (books_on state) (decided_on state call) e

-- what answers a decision
abbrev pub RefusesAmong : Books → List ℕ → Decision → Type 0
RefusesAmong books numbers decision = Refuses numbers (answer_to books decision)

abbrev pub VerdictRefusesAmong : Books → Bill → List ℕ → Verdict → Type 0
VerdictRefusesAmong books bill numbers v = RefusesAmong books numbers (decided_by books bill v)

pub verdict_refuses : (books : Books) (bill : Bill) (numbers : List ℕ) → Among verdict_numbers numbers → VerdictRefusesAmong books bill numbers (verdict books bill)
verdict_refuses books bill numbers among =
    verdict_by (VerdictRefusesAmong books bill numbers) books bill (λ number. one_of_more verdict_numbers numbers number among) (λ has. tt)

pub decided_refuses : (books : Books) (call : Call) → RefusesAmong books (rule_numbers call) (decided books call)
decided_refuses books (accept book request) = by_pricing (price_of book request) refl
  where
    by_pricing : (pricing : Pricing) → price_of book request ≡ pricing → RefusesAmong books (rule_numbers (accept book request)) (accept_by books pricing)
    by_pricing (Ok bill) e = verdict_refuses books bill (rule_numbers (accept book request)) refl
    by_pricing (Err r) e =
        let within = pricing_refusal_numbers book request r e in
        one_of_more (one_to 5) (rule_numbers (accept book request)) r.number refl (within_one_to 5 r.number within.0 within.1)
decided_refuses books (pay_out e amount) = by_entry (entry_at books e)
  where
    by_entry : (at : Option EntryParticulars) → RefusesAmong books (rule_numbers (pay_out e amount)) (pay_out_by at amount)
    by_entry None = refl
    by_entry (Some row) =
        by_cond (RefusesAmong books (rule_numbers (pay_out e amount))) (leb (row.paid_out + amount) row.credited) _ _ (λ within. tt) (λ above. refl)
decided_refuses books (hand_over e person) = by_entry (entry_at books e)
  where
    by_entry : (at : Option EntryParticulars) → RefusesAmong books (rule_numbers (hand_over e person)) (hand_over_by at person)
    by_entry None = refl
    by_entry (Some row) = tt
decided_refuses books (clear month) =
    by_cond (RefusesAmong books (rule_numbers (clear month))) (ltb month books.month) _ _ (λ early. refl) (λ in_order. tt)

-- 13 comes before everything else, and no rule refuses with it
with_13 : (call : Call) (answer : CallAnswer) → Refuses (rule_numbers call) answer → Refuses (call_numbers call) answer
with_13 call (is_accepted acceptance) told = tt
with_13 call is_done told = tt
with_13 (accept book request) (is_refused r) told = one_of_more (rule_numbers (accept book request)) (call_numbers (accept book request)) r.number refl told
with_13 (pay_out e amount) (is_refused r) told = one_of_more (rule_numbers (pay_out e amount)) (call_numbers (pay_out e amount)) r.number refl told
with_13 (hand_over e person) (is_refused r) told = one_of_more (rule_numbers (hand_over e person)) (call_numbers (hand_over e person)) r.number refl told
with_13 (clear month) (is_refused r) told = one_of_more (rule_numbers (clear month)) (call_numbers (clear month)) r.number refl told

has_13 : (call : Call) → one_of (call_numbers call) ledger_unsound ≡ true
has_13 (accept book request) = refl
has_13 (pay_out e amount) = refl
has_13 (hand_over e person) = refl
has_13 (clear month) = refl

pub refusal_numbers : (state : State) (call : Call) → Refuses (call_numbers call) (answered state call)
unfolding answered
refusal_numbers state call =
    by_cond (RefusesAmong (books_on state) (call_numbers call)) (sound state.ledger state.table (length state.table)) _ _
    (λ stands. with_13 call (answer_to (books_on state) (decided (books_on state) call)) (decided_refuses (books_on state) call)) (λ unsound. has_13 call)
