-- What each call makes of the entry at a place, and of a number that has none.
use Rattle.std.specs.Prelude.{ℕ, ◌+◌, ◌<◌, ◌≤◌, ◌≡◌, List, length, take, get_or, None, Option, Some, option_map}
use Rattle.std.proofs.Common.{sym, ap, ◌∙◌, arith, length-take, get_or-take, le-leb}
use Rattle.std.proofs.lemmas.Bool.{lt-leb}
use Rattle.tagged.specs.Refusals.{no_such_entry, pay_out_above_credit}
use Rattle.ledger.specs.Records.{no_party}
use Rattle.ledger.specs.Books.{EntryParticulars, entry_at, entry_particulars, books_of}
use Rattle.ledger.specs.EntryPlace.{entry_place}
use Rattle.ledger.proofs.Theorems.Lookup.{placed}
use Rattle.ledger.specs.declared.records.Party.{Party}
use Rattle.ledger.specs.declared.records.Ledger.{Ledger}
use Rattle.calls.proofs.Theorems.ByPlace.{entry_by_place}
use Rattle.calls.specs.Decision.{pay_out, hand_over, pay_out_by, hand_over_by}
use Rattle.entry_calls.specs.EntryCalls.{refused_change, done_change, paid_more, handed_to, changed_at, change_of, entry_change}

module _ (ledger : Ledger) (parties : List Party) (e : ℕ) where
  abbrev entries : List Party
  entries = take ledger.entries parties

  -- the particulars of the entry at a place
  abbrev found : Option ℕ → Option EntryParticulars
  found = option_map (λ k. entry_particulars (get_or entries k no_party))

  module _ (k : ℕ) (place : entry_place e entries ≡ Some k) where
    abbrev party : Party
    party = get_or parties k no_party

    its : (k < length entries) × ((get_or entries k no_party).number ≡ e)
    its = placed (λ entry. entry.number) entries no_party e k place

    pub kept_below : (k < ledger.entries) × (k < length parties)
    kept_below = let many = length-take ledger.entries parties in (omega (arith, its.0), omega (arith, its.0))

    same : get_or entries k no_party ≡ party
    same = get_or-take ledger.entries parties k no_party kept_below.0

    pub own_number : party.number ≡ e
    own_number = sym (ap (λ (entry : Party). entry.number) same) ∙ its.1

    own_place : entry_place party.number entries ≡ Some k
    own_place = ap (λ n. entry_place n entries) own_number ∙ place

    pub row_at : entry_at (books_of ledger parties) e ≡ Some (entry_particulars party)
    row_at = entry_by_place ledger parties e ∙ ap found place ∙ ap (λ entry. Some (entry_particulars entry)) same

    pub pay_out_within : (amount : ℕ) → party.paid_out + amount ≤ party.credited →
        entry_change ledger parties (pay_out e amount) ≡ done_change k (paid_more amount party)
    unfolding entry_change
    pay_out_within amount within =
        ap (λ row. change_of entries (pay_out_by row amount)) row_at ∙ rw (le-leb _ _ within) (ap (changed_at entries (paid_more amount)) own_place ∙ ap (λ entry. done_change k (paid_more amount entry)) same)

    pub pay_out_above : (amount : ℕ) → party.credited < party.paid_out + amount → entry_change ledger parties (pay_out e amount) ≡ refused_change pay_out_above_credit
    unfolding entry_change
    pay_out_above amount above = ap (λ row. change_of entries (pay_out_by row amount)) row_at ∙ rw (lt-leb _ _ above)

    pub hand_over_there : (person : ℕ) → entry_change ledger parties (hand_over e person) ≡ done_change k (handed_to person party)
    unfolding entry_change
    hand_over_there person = ap (λ row. change_of entries (hand_over_by row person)) row_at ∙ ap (changed_at entries (handed_to person)) own_place ∙ ap (λ entry. done_change k (handed_to person entry)) same

  module _ (missing : entry_place e entries ≡ None) where
    pub none_at : entry_at (books_of ledger parties) e ≡ None
    none_at = entry_by_place ledger parties e ∙ ap found missing

    pub pay_out_missing : (amount : ℕ) → entry_change ledger parties (pay_out e amount) ≡ refused_change no_such_entry
    unfolding entry_change
    pay_out_missing amount = ap (λ row. change_of entries (pay_out_by row amount)) none_at

    pub hand_over_missing : (person : ℕ) → entry_change ledger parties (hand_over e person) ≡ refused_change no_such_entry
    unfolding entry_change
    hand_over_missing person = ap (λ row. change_of entries (hand_over_by row person)) none_at
