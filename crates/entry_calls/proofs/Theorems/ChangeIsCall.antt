-- The change of one record, stored at its place, is the call: the answer and what it leaves are those of the decision.
use Rattle.std.specs.Prelude.{ℕ, ◌+◌, ◌≡◌, List, map, Bool, true, false, cond, length, take, get_or, set, leb, eqb, None, Option, Some}
use Rattle.std.proofs.Math.Path.{refl}
use Rattle.std.proofs.Common.{sym, ap, subst, ◌∙◌, get_or-take}
use Rattle.tagged.specs.File.{refusal}
use Rattle.tagged.specs.Refusals.{no_such_entry, pay_out_above_credit, ledger_unsound}
use Rattle.tagged.specs.declared.file.Refusal.{Refusal}
use Rattle.ledger.specs.Lists.{at_start}
use Rattle.ledger.specs.Records.{no_party}
use Rattle.ledger.specs.Books.{entry_at, books_of}
use Rattle.ledger.specs.EntryPlace.{entry_place}
use Rattle.ledger.proofs.Theorems.SameEntries.{snapshot_sound}
use Rattle.ledger.specs.Sound.{entries_rise, sound}
use Rattle.ledger.proofs.Theorems.Sound.{sound_means}
use Rattle.ledger.specs.declared.records.Party.{Party}
use Rattle.ledger.specs.declared.records.Ledger.{Ledger}
use Rattle.calls.proofs.Theorems.ByPlace.{change_at_start}
use Rattle.calls.specs.Calls.{state_of, decided_on, answered, leaves}
use Rattle.calls.specs.Carried.{carried_out}
use Rattle.calls.specs.Decision.{Call, pay_out, hand_over, Decision, paid_out, handed_over, refused, pay_out_by, hand_over_by, decided, is_done, of_entry_call, answer_to}
use Rattle.calls.proofs.Theorems.Lists.{by_cond}
use Rattle.entry_calls.specs.EntryCalls.{EntryChange, refused_change, changed_at, paid_more, handed_to, change_of, entry_change, pay_out_change, hand_over_change, changed_table}
use Rattle.entry_calls.proofs.Theorems.EntryCalls.{kept_below, own_number, row_at, none_at}

-- a change that answers and leaves what a decision does
pub record Matches (ledger : Ledger) (table : List Party) (change : EntryChange) (decision : Decision) : Type 0 where
  pub answers : of_entry_call change.answer ≡ answer_to (books_of ledger table) decision
  pub leaving : state_of ledger (changed_table table change) ≡ carried_out (state_of ledger table) decision

module _ (ledger : Ledger) (table : List Party) where
  abbrev entries : List Party
  entries = take ledger.entries table

  refused_matches : (r : Refusal) → Matches ledger table (change_of entries (refused r)) (refused r)
  refused_matches r = record { answers = refl; leaving = refl }

  module _ (rise : entries_rise ledger entries ≡ true) (e k : ℕ) (place : entry_place e entries ≡ Some k) where
    -- a change of entry e alone is a store at its place
    stored : (change : Party → Party) →
        set table k (change (get_or entries k no_party)) ≡ at_start (map (λ party. cond (eqb e party.number) (change party) party) entries) table
    stored change =
        let same = get_or-take ledger.entries table k no_party (kept_below ledger table e k place).0 in
        rw same (sym (change_at_start (λ party. party.number) change ledger.next_entry e k ledger.entries table no_party rise place))

    changed_matches : (change : Party → Party) (decision : Decision) → answer_to (books_of ledger table) decision ≡ is_done →
        change_of entries decision ≡ changed_at entries change (entry_place e entries) →
        carried_out (state_of ledger table) decision ≡
        state_of ledger (at_start (map (λ party. cond (eqb e party.number) (change party) party) entries) table) →
        Matches ledger table (change_of entries decision) decision
    changed_matches change decision done changes leaving =
        rw (changes, place) (record { answers = sym done; leaving = ap (state_of ledger) (stored change) ∙ sym leaving })

  pay_out_matches : entries_rise ledger entries ≡ true → (e amount : ℕ) →
      Matches ledger table (entry_change ledger table (pay_out e amount)) (decided (books_of ledger table) (pay_out e amount))
  unfolding entry_change
  pay_out_matches rise e amount = by (entry_place e entries) refl
    where
      P : Decision → Type 0
      P decision = Matches ledger table (change_of entries decision) decision

      by : (at : Option ℕ) → entry_place e entries ≡ at → P (pay_out_by (entry_at (books_of ledger table) e) amount)
      by (Some k) place =
          let party : Party = get_or table k no_party in
          let own = sym (own_number ledger table e k place) in
          subst (λ row. P (pay_out_by row amount)) (sym (row_at ledger table e k place))
          (by_cond P (leb (party.paid_out + amount) party.credited) (paid_out party.scheme party.number amount) (refused (refusal pay_out_above_credit 0 0))
          (λ within.
          changed_matches rise party.number k (subst (λ n. entry_place n entries ≡ Some k) own place) (paid_more amount)
          (paid_out party.scheme party.number amount) refl refl refl)
          (λ above. refused_matches (refusal pay_out_above_credit 0 0)))
      by None missing = subst (λ row. P (pay_out_by row amount)) (sym (none_at ledger table e missing)) (refused_matches (refusal no_such_entry 0 0))

  hand_over_matches : entries_rise ledger entries ≡ true → (e person : ℕ) →
      Matches ledger table (entry_change ledger table (hand_over e person)) (decided (books_of ledger table) (hand_over e person))
  unfolding entry_change
  hand_over_matches rise e person = by (entry_place e entries) refl
    where
      P : Decision → Type 0
      P decision = Matches ledger table (change_of entries decision) decision

      by : (at : Option ℕ) → entry_place e entries ≡ at → P (hand_over_by (entry_at (books_of ledger table) e) person)
      by (Some k) place =
          let party : Party = get_or table k no_party in
          let own = sym (own_number ledger table e k place) in
          subst (λ row. P (hand_over_by row person)) (sym (row_at ledger table e k place))
          (changed_matches rise party.number k (subst (λ n. entry_place n entries ≡ Some k) own place) (handed_to person)
          (handed_over party.number person) refl refl refl)
      by None missing = subst (λ row. P (hand_over_by row person)) (sym (none_at ledger table e missing)) (refused_matches (refusal no_such_entry 0 0))

  -- 13 comes before
  call_matches : (call : Call) (change : EntryChange) → (entries_rise ledger entries ≡ true → Matches ledger table change (decided (books_of ledger table) call)) →
      Matches ledger table (cond (sound ledger table (length table)) change (refused_change ledger_unsound)) (decided_on (state_of ledger table) call)
  call_matches call change matches = by (sound ledger table (length table)) refl
    where
      by : (holds : Bool) → sound ledger table (length table) ≡ holds →
          Matches ledger table (cond holds change (refused_change ledger_unsound)) (cond holds (decided (books_of ledger table) call) (refused (refusal ledger_unsound 0 0)))
      by true holds = matches (sound_means ledger table (length table) holds).numbers.entries_in_order
      by false holds = refused_matches (refusal ledger_unsound 0 0)

-- ---- over any snapshot that holds the entries
pub pay_out_is_call : (ledger : Ledger) (table parties : List Party) (entry amount : ℕ) → take ledger.entries parties ≡ take ledger.entries table →
    let change = pay_out_change ledger parties (length table) entry amount in
    (of_entry_call change.answer ≡ answered (state_of ledger table) (pay_out entry amount))
    × (state_of ledger (changed_table table change) ≡ leaves (state_of ledger table) (pay_out entry amount))
unfolding pay_out_change entry_change answered leaves
pay_out_is_call ledger table parties entry amount same =
    let change = entry_change ledger table (pay_out entry amount) in
    let told = call_matches ledger table (pay_out entry amount) change (λ rise. pay_out_matches ledger table rise entry amount) in
    rw (snapshot_sound ledger table parties (length table) same, same) (told.answers, told.leaving)

pub hand_over_is_call : (ledger : Ledger) (table parties : List Party) (entry person : ℕ) → take ledger.entries parties ≡ take ledger.entries table →
    let change = hand_over_change ledger parties (length table) entry person in
    (of_entry_call change.answer ≡ answered (state_of ledger table) (hand_over entry person))
    × (state_of ledger (changed_table table change) ≡ leaves (state_of ledger table) (hand_over entry person))
unfolding hand_over_change entry_change answered leaves
hand_over_is_call ledger table parties entry person same =
    let change = entry_change ledger table (hand_over entry person) in
    let told = call_matches ledger table (hand_over entry person) change (λ rise. hand_over_matches ledger table rise entry person) in
    rw (snapshot_sound ledger table parties (length table) same, same) (told.answers, told.leaving)
