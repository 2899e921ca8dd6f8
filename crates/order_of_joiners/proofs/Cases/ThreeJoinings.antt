-- order_within_cents over two lists of calls: three joinings come to 9 cents, with another scheme's in between, and where the scheme was cleared.
use Rattle.std.specs.Prelude.{ℕ, ◌≡◌, refl, List, [], ◌∷◌, ◌++◌, length}
use Rattle.std.proofs.Common.{sym, ap₂, subst, ◌∙◌, inl, inr, lit<}
use Rattle.ledger.specs.Lists.{All, nil, more}
use Rattle.ledger.specs.declared.records.Party.{Party}
use Rattle.calls.specs.Verdict.{verdict}
use Rattle.calls.specs.Decision.{pay_out, clear}
use Rattle.calls.proofs.Theorems.Lists.{all_append}
use Rattle.history.specs.History.{Account, History, account_of, joinings, history_from, no_history, history_of}
use Rattle.history.proofs.Cases.DecidedCalls.{history_by}
use Rattle.order_of_joiners.specs.Distance.{cents_for, EachWithin, parts_of, parts_on}
use Rattle.order_of_joiners.specs.Orders.{MadeOn, history_after, SameParties}
use Rattle.order_of_joiners.specs.Laws.{KeptWithin}
use Rattle.order_of_joiners.specs.Cases.OrdersDiffer.{Asking, calls_of, larger, largest_first, largest_last, beside_another, ThreeJoiningsWithin, ClearedJoiningsWithin}
use Rattle.order_of_joiners.proofs.Cases.PricedJoinings.{Billed}
use Rattle.order_of_joiners.proofs.Cases.ByBills.{rules_of, history_by_bills, cleared_by_bills, all_billed}
use Rattle.order_of_joiners.proofs.Theorems.OrderWithinCents.{order_within_cents}

by_bills : (room : ℕ) {asked : List Asking} → All Billed asked → (start : List Party) (made : MadeOn start) → length start ≡ room → made.calls ≡ calls_of asked →
    history_after start made ≡ history_by room no_history (rules_of asked)
by_bills room billed start made length_is calls_are = ap₂ history_of length_is calls_are ∙ history_by_bills room no_history billed

abbrev beside : History
beside = history_by 6 no_history (rules_of (larger ++ beside_another))

abbrev alone : History
alone = history_by 4 no_history (rules_of (larger ++ largest_last))

same_by_bills : SameParties (account_of 1 beside) (account_of 1 alone)
unfolding history_by verdict
same_by_bills =
    record { cost = refl; no_fee = refl; no_other_fee = refl; capacities = record { moves = (0, 2) ∷ []; below = (lit< tt, lit< tt, tt); is = refl } }

pub three_joinings : ThreeJoiningsWithin
unfolding history_by verdict
three_joinings start start_other made made_other room room_other calls calls_other =
    let one = by_bills 6 (all_append all_billed.larger all_billed.beside_another) start made room calls in
    let other = by_bills 4 (all_append all_billed.larger all_billed.largest_last) start_other made_other room_other calls_other in
    let same =
    subst (λ (h : History). SameParties (account_of 1 h) (account_of 1 (history_after start_other made_other))) (sym one)
    (subst (λ (h : History). SameParties (account_of 1 beside) (account_of 1 h)) (sym other) same_by_bills) in
    subst (λ (h : History). EachWithin (cents_for (joinings (account_of 1 h).entered)) (parts_on 1 made.after) (parts_on 1 made_other.after)) one
    ((order_within_cents start start_other made made_other).1 1 1 same).by_tables

abbrev cleared : History
cleared = history_from 4 (history_by 4 no_history (rules_of (larger ++ largest_first))) (pay_out 1 44 ∷ clear 24399 ∷ [])

-- its scheme as it stood
abbrev gone : Account
gone = account_of 1 (history_from 4 (history_by 4 no_history (rules_of (larger ++ largest_first))) (pay_out 1 44 ∷ []))

pub cleared_joinings : ClearedJoiningsWithin
unfolding history_from history_by verdict
cleared_joinings start start_other made made_other room room_other calls calls_other =
    let one : history_after start made ≡ cleared = ap₂ history_of room calls ∙ cleared_by_bills in
    let other = by_bills 4 (all_append all_billed.larger all_billed.largest_last) start_other made_other room_other calls_other in
    let within : KeptWithin cleared alone =
    subst (λ (h : History). KeptWithin h alone) one
    (subst (KeptWithin (history_after start made)) other (order_within_cents start start_other made made_other).0) in
    let same : SameParties gone (account_of 1 alone) =
    record { cost = refl; no_fee = refl; no_other_fee = refl; capacities = record { moves = (0, 2) ∷ []; below = (lit< tt, lit< tt, tt); is = refl } } in
    subst (λ (h : History). All (λ account. EachWithin 9 (parts_of account) (parts_of (account_of 1 (history_after start_other made_other)))) h.cleared) (sym one)
    (subst (λ (h : History). All (λ account. EachWithin 9 (parts_of account) (parts_of (account_of 1 h))) cleared.cleared) (sym other)
    (more {x = gone} (within gone (account_of 1 alone) (inr (0, lit< tt, refl)) (inl (1, refl)) same) nil))
