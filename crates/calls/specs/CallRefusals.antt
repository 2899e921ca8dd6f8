-- What holds of every call alike: a refusal changes nothing and has one of its call's numbers, and a promise can be kept.
use Rattle.std.specs.Prelude.{ℕ, ◌≡◌, List, [], ◌∷◌, ◌++◌, true}
use Rattle.tagged.specs.Refusals.{file_does_not_walk, check_differs, value_not_listed, zone_not_in_book, bespoke_not_allowed, month_before_last, no_such_entry, pay_out_above_credit, ledger_unsound}
use Rattle.ledger.specs.RefusalNumbers.{one_of}
use Rattle.calls.specs.VerdictConditions.{verdict_numbers}
use Rattle.calls.specs.Decision.{Call, accept, pay_out, hand_over, clear, CallAnswer, is_accepted, is_done, is_refused}

-- ---- the numbers that a call refuses with: for accept pricing's own among them
abbrev pub pricing_numbers : List ℕ
pricing_numbers = file_does_not_walk ∷ check_differs ∷ value_not_listed ∷ zone_not_in_book ∷ bespoke_not_allowed ∷ []

-- by the rules alone
abbrev pub rule_numbers : Call → List ℕ
rule_numbers (accept book request) = pricing_numbers ++ verdict_numbers
rule_numbers (pay_out e amount) = no_such_entry ∷ pay_out_above_credit ∷ []
rule_numbers (hand_over e person) = no_such_entry ∷ []
rule_numbers (clear month) = month_before_last ∷ []

abbrev pub call_numbers : Call → List ℕ
call_numbers call = rule_numbers call ++ (ledger_unsound ∷ [])

abbrev pub Refuses : List ℕ → CallAnswer → Type 0
Refuses numbers (is_accepted acceptance) = Unit {0}
Refuses numbers is_done = Unit {0}
Refuses numbers (is_refused r) = one_of numbers r.number ≡ true
