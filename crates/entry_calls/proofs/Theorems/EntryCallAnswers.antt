-- When pay-out and hand-over answer what, and what they leave: the entry's record changed at its place, every other as it was.
use Rattle.std.specs.Prelude.{ℕ, ◌+◌, ◌<◌, ◌≤◌, ◌≡◌, refl, List, true, false, length, take, get_or, set, Err, None, Ok, Option, Some}
use Rattle.std.proofs.Common.{sym, ap, subst, ◌∙◌, arith, length-take-le, get_or-take, get_or-set_other}
use Rattle.tagged.specs.File.{refusal}
use Rattle.tagged.specs.Refusals.{no_such_entry, pay_out_above_credit, ledger_unsound}
use Rattle.ledger.specs.Records.{no_party}
use Rattle.ledger.specs.EntryPlace.{entry_place}
use Rattle.ledger.proofs.Theorems.Lookup.{own_place}
use Rattle.ledger.specs.Sound.{sound}
use Rattle.ledger.proofs.Theorems.Sound.{sound_means}
use Rattle.ledger.specs.declared.records.Party.{Party}
use Rattle.ledger.specs.declared.records.Ledger.{Ledger}
use Rattle.calls.specs.Calls.{state_of, answered, leaves}
use Rattle.calls.specs.Carried.{State}
use Rattle.calls.specs.Decision.{CallAnswer, pay_out, hand_over, is_done, is_refused, of_entry_call, Answer}
use Rattle.entry_calls.specs.EntryCalls.{EntryChange, refused_change, done_change, paid_more, handed_to, pay_out_change, hand_over_change, changed_table}
use Rattle.entry_calls.proofs.Theorems.EntryCalls.{kept_below, own_number, pay_out_within, pay_out_above, pay_out_missing, hand_over_there, hand_over_missing}
use Rattle.entry_calls.proofs.Theorems.ChangeIsCall.{pay_out_is_call, hand_over_is_call}

-- the change over the whole table says what the call answers and leaves
known : (ledger : Ledger) (table : List Party) (change is : EntryChange) {answer : CallAnswer} {after : State} → change ≡ is →
    (of_entry_call change.answer ≡ answer) × (state_of ledger (changed_table table change) ≡ after) →
    (answer ≡ of_entry_call is.answer) × (after ≡ state_of ledger (changed_table table is))
known ledger table change is same told =
    (sym told.0 ∙ ap (λ one. of_entry_call one.answer) same, sym told.1 ∙ ap (λ one. state_of ledger (changed_table table one)) same)

module _ (ledger : Ledger) (table : List Party) (e : ℕ) where
  pub pay_out_refused_13 : (amount : ℕ) → sound ledger table (length table) ≡ false →
      answered (state_of ledger table) (pay_out e amount) ≡ is_refused (refusal ledger_unsound 0 0)
  unfolding answered
  pay_out_refused_13 amount unsound = rw unsound

  pub hand_over_refused_13 : (person : ℕ) → sound ledger table (length table) ≡ false →
      answered (state_of ledger table) (hand_over e person) ≡ is_refused (refusal ledger_unsound 0 0)
  unfolding answered
  hand_over_refused_13 person unsound = rw unsound

  module _ (stands : sound ledger table (length table) ≡ true) where
    -- no entry that stands has the number
    module _ (missing : (k : ℕ) → k < ledger.entries → (get_or table k no_party).number ≡ e → ⊥) where
      no_place : entry_place e (take ledger.entries table) ≡ None
      no_place = by (entry_place e (take ledger.entries table)) refl
        where
          by : (at : Option ℕ) → entry_place e (take ledger.entries table) ≡ at → at ≡ None
          by None none = refl
          by (Some k) at = absurd (missing k (kept_below ledger table e k at).0 (own_number ledger table e k at))

      pub pay_out_refused_11 : (amount : ℕ) → answered (state_of ledger table) (pay_out e amount) ≡ is_refused (refusal no_such_entry 0 0)
      unfolding pay_out_change
      pay_out_refused_11 amount =
          (known ledger table (pay_out_change ledger table (length table) e amount) (refused_change no_such_entry) (rw stands (pay_out_missing ledger table e no_place amount))
          (pay_out_is_call ledger table table e amount refl)).0

      pub hand_over_refused_11 : (person : ℕ) → answered (state_of ledger table) (hand_over e person) ≡ is_refused (refusal no_such_entry 0 0)
      unfolding hand_over_change
      hand_over_refused_11 person =
          (known ledger table (hand_over_change ledger table (length table) e person) (refused_change no_such_entry) (rw stands (hand_over_missing ledger table e no_place person))
          (hand_over_is_call ledger table table e person refl)).0

    -- an entry that stands, at its place
    module _ (k : ℕ) (within : k < ledger.entries) (own : (get_or table k no_party).number ≡ e) where
      abbrev party : Party
      party = get_or table k no_party

      place : entry_place e (take ledger.entries table) ≡ Some k
      place =
          let means = sound_means ledger table (length table) stands in
          let all : length (take ledger.entries table) ≡ ledger.entries = length-take-le ledger.entries table means.figures.in_table in
          let same : get_or (take ledger.entries table) k no_party ≡ party = get_or-take ledger.entries table k no_party within in
          subst (λ n. entry_place n (take ledger.entries table) ≡ Some k) (ap (λ (entry : Party). entry.number) same ∙ own)
          (own_place (λ entry. entry.number) (take ledger.entries table) no_party ledger.next_entry 0 means.numbers.entries_in_order k (omega arith))

      pub pay_out_refused_12 : (amount : ℕ) → party.credited < party.paid_out + amount →
          answered (state_of ledger table) (pay_out e amount) ≡ is_refused (refusal pay_out_above_credit 0 0)
      unfolding pay_out_change
      pay_out_refused_12 amount above =
          (known ledger table (pay_out_change ledger table (length table) e amount) (refused_change pay_out_above_credit)
          (rw stands (pay_out_above ledger table e k place amount above)) (pay_out_is_call ledger table table e amount refl)).0

      pub pay_out_done : (amount : ℕ) → party.paid_out + amount ≤ party.credited →
          (answered (state_of ledger table) (pay_out e amount) ≡ is_done)
          × (leaves (state_of ledger table) (pay_out e amount) ≡ state_of ledger (set table k (paid_more amount party)))
      unfolding pay_out_change
      pay_out_done amount within =
          known ledger table (pay_out_change ledger table (length table) e amount) (done_change k (paid_more amount party))
          (rw stands (pay_out_within ledger table e k place amount within)) (pay_out_is_call ledger table table e amount refl)

      pub hand_over_done : (person : ℕ) →
          (answered (state_of ledger table) (hand_over e person) ≡ is_done)
          × (leaves (state_of ledger table) (hand_over e person) ≡ state_of ledger (set table k (handed_to person party)))
      unfolding hand_over_change
      hand_over_done person =
          known ledger table (hand_over_change ledger table (length table) e person) (done_change k (handed_to person party))
          (rw stands (hand_over_there ledger table e k place person)) (hand_over_is_call ledger table table e person refl)

-- no other record changes
pub other_records_kept : (table : List Party) (change : EntryChange) (j : ℕ) → (j ≡ change.place → ⊥) →
    get_or (changed_table table change) j no_party ≡ get_or table j no_party
other_records_kept table change j other = kept change.answer
  where
    kept : (answer : Answer) → get_or (changed_table table (record { answer = answer; place = change.place; party = change.party })) j no_party ≡ get_or table j no_party
    kept (Ok _) = get_or-set_other table change.place j change.party no_party other
    kept (Err r) = refl
