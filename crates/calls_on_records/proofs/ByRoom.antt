-- What is done to a table that is lent from an array is done to the array's first records, and leaves those past them.
use Rattle.std.specs.Prelude.{ℕ, ◌≡◌, List, ◌++◌, true, length, min, take, drop}
use Rattle.std.proofs.Common.{sym, ap, subst, ◌∙◌, arith, inl, inr, length-take, take_at}
use Rattle.std.proofs.lemmas.List.{take_all, drop_all, append-nil}
use Rattle.std.proofs.lemmas.Slice.{drop-append-drop}
use Rattle.std.proofs.lemmas.Bool.{cases_lt}
use Rattle.ledger.specs.Limits.{most_entries}
use Rattle.ledger.specs.Sound.{sound}
use Rattle.ledger.specs.declared.records.Party.{Party}
use Rattle.ledger.specs.declared.records.Ledger.{Ledger}
use Rattle.calls.specs.Decision.{Call, CallAnswer}
use Rattle.calls.specs.Calls.{state_of, Promised}
use Rattle.calls_on_records.specs.OnRecords.{SoundOnRecords, PromisedOnRecords}

module _ (room records : ℕ) (parties : List Party) (all : length parties ≡ most_entries) (is : records ≡ min room most_entries) where
  same_table : take records parties ≡ take room parties
  same_table = elim (cases_lt most_entries room) [
    | inl more ↦ take_all records parties (omega arith) ∙ sym (take_all room parties (omega arith))
    | inr within ↦ ap (λ n. take n parties) (omega arith)
  ]

  stands_on : (ledger : Ledger) → SoundOnRecords room ledger parties → sound ledger (take records parties) (length (take records parties)) ≡ true
  stands_on ledger stands = subst (λ table. sound ledger table (length table) ≡ true) (sym same_table) stands

  module _ (table : List Party) (many : length table ≡ length (take records parties)) where
    taken : take room (table ++ drop records parties) ≡ table
    taken = elim (cases_lt most_entries room) [
      | inl more ↦
          ap (λ rest. take room (table ++ rest)) (drop_all records parties (omega arith))
          ∙ ap (take room) (append-nil table)
          ∙ take_all room table (omega (arith, many, length-take records parties))
      | inr within ↦ take_at table (drop records parties) room (omega (arith, many, length-take records parties))
    ]

    left : drop room (table ++ drop records parties) ≡ drop room parties
    left = drop-append-drop records parties table room (omega arith) (omega (arith, many, length-take records parties))

    pub on_records : (ledger after : Ledger) (call : Call) (answer : CallAnswer) → Promised (state_of ledger (take records parties)) call answer (state_of after table) →
        PromisedOnRecords room ledger parties call answer after (table ++ drop records parties)
    on_records ledger after call answer kept =
        record {
          promised =
              subst (λ t. Promised (state_of ledger (take room parties)) call answer (state_of after t)) (sym taken)
              (subst (λ t. Promised (state_of ledger t) call answer (state_of after table)) same_table kept);
          past = left;
        }

    -- and where the table is known to be sound
    pub on_sound_records : (ledger after : Ledger) (call : Call) (answer : CallAnswer) → SoundOnRecords room ledger parties →
        (sound ledger (take records parties) (length (take records parties)) ≡ true → Promised (state_of ledger (take records parties)) call answer (state_of after table)) →
        PromisedOnRecords room ledger parties call answer after (table ++ drop records parties)
    on_sound_records ledger after call answer stands kept = on_records ledger after call answer (kept (stands_on ledger stands))
