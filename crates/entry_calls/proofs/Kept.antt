-- What the changes of an entry keep of the call's promise.
use Rattle.std.specs.Prelude.{ℕ, ◌≡◌, List, length, true}
use Rattle.std.proofs.Common.{refl, ap, ◌∙◌}
use Rattle.ledger.specs.Sound.{sound}
use Rattle.ledger.specs.declared.records.Party.{Party}
use Rattle.ledger.specs.declared.records.Ledger.{Ledger}
use Rattle.calls.proofs.Theorems.Promised.{promise_from}
use Rattle.calls.specs.Calls.{state_of, Promised}
use Rattle.calls.specs.Decision.{Answer, pay_out, hand_over, of_entry_call}
use Rattle.entry_calls.specs.EntryCalls.{entry_change, changed_table, pay_out_change, hand_over_change}
use Rattle.entry_calls.proofs.Theorems.EntryCalls.{kept_below, pay_out_within, pay_out_above, pay_out_missing, hand_over_there, hand_over_missing}
use Rattle.entry_calls.proofs.Theorems.ChangeIsCall.{pay_out_is_call, hand_over_is_call}

-- on a sound ledger the change is the call
module _ (ledger : Ledger) (table : List Party) (stands : sound ledger table (length table) ≡ true) {answer : Answer} {left : List Party} where
  pub pay_out_kept : (entry amount : ℕ) → let change = entry_change ledger table (pay_out entry amount) in
      answer ≡ change.answer → left ≡ changed_table table change →
      Promised (state_of ledger table) (pay_out entry amount) (of_entry_call answer) (state_of ledger left)
  unfolding pay_out_change
  pay_out_kept entry amount answers leaves =
      let told = rw stands at (pay_out_is_call ledger table table entry amount refl) in
      promise_from (ap of_entry_call answers ∙ told.0) (ap (state_of ledger) leaves ∙ told.1)

  pub hand_over_kept : (entry person : ℕ) → let change = entry_change ledger table (hand_over entry person) in
      answer ≡ change.answer → left ≡ changed_table table change →
      Promised (state_of ledger table) (hand_over entry person) (of_entry_call answer) (state_of ledger left)
  unfolding hand_over_change
  hand_over_kept entry person answers leaves =
      let told = rw stands at (hand_over_is_call ledger table table entry person refl) in
      promise_from (ap of_entry_call answers ∙ told.0) (ap (state_of ledger) leaves ∙ told.1)

-- what each call makes of an entry that has its place, and of one that has none
pub ruleset paying = (kept_below, pay_out_within, pay_out_above, pay_out_missing)

pub ruleset handing = (kept_below, hand_over_there, hand_over_missing)
