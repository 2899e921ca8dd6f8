-- No rule refuses with 13: it is none of the numbers that the rules of a call have.
use Rattle.std.specs.Prelude.{ℕ, ◌≡◌, refl, List, false}
use Rattle.std.proofs.Common.{sym, ap, ◌∙◌, true≢false}
use Rattle.tagged.specs.Refusals.{ledger_unsound}
use Rattle.ledger.specs.Books.{Books}
use Rattle.ledger.specs.RefusalNumbers.{one_of}
use Rattle.calls.specs.Decision.{Call, accept, pay_out, hand_over, clear, CallAnswer, is_accepted, is_done, is_refused, decided, answer_to}
use Rattle.calls.specs.CallRefusals.{rule_numbers, Refuses}
use Rattle.calls.proofs.Theorems.Calls.{decided_refuses}
use Rattle.history.specs.DemandThree.{Not13}

no_13 : (call : Call) → one_of (rule_numbers call) ledger_unsound ≡ false
no_13 (accept book request) = refl
no_13 (pay_out e amount) = refl
no_13 (hand_over e person) = refl
no_13 (clear month) = refl

not_13 : (numbers : List ℕ) (answer : CallAnswer) → one_of numbers ledger_unsound ≡ false → Refuses numbers answer → Not13 answer
not_13 numbers (is_accepted acceptance) none told = tt
not_13 numbers is_done none told = tt
not_13 numbers (is_refused r) none told = λ same. true≢false (sym told ∙ ap (one_of numbers) same ∙ none)

pub decided_not_13 : (books : Books) (call : Call) → Not13 (answer_to books (decided books call))
decided_not_13 books call = not_13 (rule_numbers call) (answer_to books (decided books call)) (no_13 call) (decided_refuses books call)
