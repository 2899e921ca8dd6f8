-- What a call answers and leaves reads the table's entries and its length, and no record past the last entry.
use Rattle.std.specs.Prelude.{◌+◌, ◌≡◌, refl, List, [], ◌∷◌, ◌++◌, map, filter, Bool, true, false, not, length, take, drop, leb}
use Rattle.std.proofs.Common.{sym, ap, ◌∙◌, subst, arith, take_at, length-take-le, length-append}
use Rattle.std.proofs.lemmas.List.{length-map}
use Rattle.tagged.specs.File.{refusal}
use Rattle.tagged.specs.Refusals.{ledger_unsound}
use Rattle.charge.specs.declared.Bill.{Bill}
use Rattle.ledger.specs.Lists.{sum_by, at_start}
use Rattle.ledger.specs.RefusalNumbers.{one_of}
use Rattle.ledger.specs.Books.{Books, entry_particulars, books_of}
use Rattle.ledger.specs.Sound.{sound}
use Rattle.ledger.proofs.Theorems.Sound.{sound_means}
use Rattle.ledger.proofs.Theorems.SameEntries.{same_sound}
use Rattle.ledger.specs.declared.records.Party.{Party}
use Rattle.ledger.specs.declared.records.Ledger.{Ledger}
use Rattle.calls.specs.Rules.{Credit}
use Rattle.calls.specs.Decision.{Decision, accepted, paid_out, handed_over, cleared, refused, decided, answer_to}
use Rattle.calls.specs.Carried.{State, entries_on, new_party, is_credited, booked, joined, opened, is_paid, is_handed, collected_of, paid_out_of, cleared_of, carried_out}
use Rattle.calls.specs.Calls.{state_of, answered, leaves}
use Rattle.calls.specs.Laws.{SameByEntries, ByEntries}
use Rattle.calls.specs.declared.courses.Joining.{Joining}
use Rattle.calls.specs.declared.courses.Joining.TheVariants.{NotAsked, Ended, Small, Pays}

-- tables that have the ledger's entries, both the same
record Alike (ledger : Ledger) (table other : List Party) : Type 0 where
  entries : take ledger.entries table ≡ take ledger.entries other
  many : length (take ledger.entries table) ≡ ledger.entries

-- entries put at the start of either
put_alike : (ledger : Ledger) (ours theirs : List Party) (table other : List Party) → ours ≡ theirs → length ours ≡ ledger.entries →
    Alike ledger (at_start ours table) (at_start theirs other)
put_alike ledger ours theirs table other same many =
    let shown : take ledger.entries (at_start ours table) ≡ ours = take_at ours (drop (length ours) table) ledger.entries many in
    record {
      entries =
          shown ∙ same ∙ sym (take_at theirs (drop (length theirs) other) ledger.entries (sym (ap length same) ∙ many));
      many = ap length shown ∙ many;
    }

record Left (state other : State) : Type 0 where
  ledger : state.ledger ≡ other.ledger
  entries : entries_on state ≡ entries_on other

left : (ledger : Ledger) (table other : List Party) → Alike ledger table other → Left (state_of ledger table) (state_of ledger other)
left ledger table other alike = record { ledger = refl; entries = alike.entries }

module _ (bill : Bill) where
  opened_left : (opens : Bool) (ledger : Ledger) (table other : List Party) → Alike ledger table other →
      Left (opened opens bill (state_of ledger table)) (opened opens bill (state_of ledger other))
  opened_left false ledger table other alike = left ledger table other alike
  opened_left true ledger table other alike =
      let party : Party = new_party ledger.next_entry ledger.next_scheme bill bill.reconciliation.x in
      left (opened true bill (state_of ledger table)).ledger (opened true bill (state_of ledger table)).table (opened true bill (state_of ledger other)).table
      (put_alike (opened true bill (state_of ledger table)).ledger (take ledger.entries table ++ (party ∷ [])) (take ledger.entries other ++ (party ∷ []))
      table other (ap (λ (entries : List Party). entries ++ (party ∷ [])) alike.entries)
      (omega (arith, length-append (take ledger.entries table) (party ∷ []), alike.many)))

  accepted_left : (joining : Joining) (opens : Bool) (credits : List Credit) (ledger : Ledger) (table other : List Party) → Alike ledger table other →
      Left (opened opens bill (joined joining credits bill (booked bill (state_of ledger table))))
      (opened opens bill (joined joining credits bill (booked bill (state_of ledger other))))
  accepted_left NotAsked opens credits ledger table other alike =
      opened_left opens (booked bill (state_of ledger table)).ledger table other (record { entries = alike.entries; many = alike.many })
  accepted_left Ended opens credits ledger table other alike =
      opened_left opens (booked bill (state_of ledger table)).ledger table other (record { entries = alike.entries; many = alike.many })
  accepted_left Small opens credits ledger table other alike =
      opened_left opens (booked bill (state_of ledger table)).ledger table other (record { entries = alike.entries; many = alike.many })
  accepted_left (Pays paid) opens credits ledger table other alike =
      let s = bill.applicant.scheme in
      let ours = joined (Pays paid) credits bill (booked bill (state_of ledger table)) in
      let theirs = joined (Pays paid) credits bill (booked bill (state_of ledger other)) in
      let party : Party = new_party ledger.next_entry s bill paid.collected in
      let credited : List Party → List Party = map (is_credited s credits) in
      opened_left opens ours.ledger ours.table theirs.table
      (put_alike ours.ledger (credited (take ledger.entries table) ++ (party ∷ [])) (credited (take ledger.entries other) ++ (party ∷ [])) table other
      (ap (λ (entries : List Party). credited entries ++ (party ∷ [])) alike.entries)
      (omega (
        arith,
        length-append (credited (take ledger.entries table)) (party ∷ []),
        length-map (take ledger.entries table) (is_credited s credits),
        alike.many,
      )))

changed_left : (ledger : Ledger) (table other : List Party) → Alike ledger table other → (change : Party → Party) →
    Left (state_of ledger (at_start (map change (take ledger.entries table)) table)) (state_of ledger (at_start (map change (take ledger.entries other)) other))
changed_left ledger table other alike change =
    left ledger _ _
    (put_alike ledger (map change (take ledger.entries table)) (map change (take ledger.entries other)) table other (ap (map change) alike.entries)
    (length-map (take ledger.entries table) change ∙ alike.many))

carried_left : (ledger : Ledger) (table other : List Party) → Alike ledger table other → (decision : Decision) →
    Left (carried_out (state_of ledger table) decision) (carried_out (state_of ledger other) decision)
carried_left ledger table other alike (accepted bill course credits) = accepted_left bill course.joining course.opens credits ledger table other alike
carried_left ledger table other alike (paid_out s e amount) = changed_left ledger table other alike (is_paid e amount)
carried_left ledger table other alike (handed_over e person) = changed_left ledger table other alike (is_handed e person)
carried_left ledger table other alike (cleared month gone) =
    let kept : List Party → List Party = filter (λ entry. not (one_of gone entry.scheme)) in
    record {
      ledger =
          λ i.
          record (cleared_of month gone (state_of ledger table)).ledger {
            cleared_collected = ledger.cleared_collected + sum_by (collected_of (alike.entries i)) gone;
            cleared_paid_out = ledger.cleared_paid_out + sum_by (paid_out_of (alike.entries i)) gone;
            entries = length (kept (alike.entries i));
          };
      entries =
          take_at (kept (take ledger.entries table)) (drop (length (kept (take ledger.entries table))) table) (length (kept (take ledger.entries table))) refl
          ∙ ap kept alike.entries
          ∙ sym (take_at (kept (take ledger.entries other)) (drop (length (kept (take ledger.entries other))) other) (length (kept (take ledger.entries other))) refl);
    }
carried_left ledger table other alike (refused r) = left ledger table other alike

-- ---- the call, which 13 comes before: whether the ledger is sound is the same
pub by_entries : ByEntries
unfolding answered leaves
by_entries ledger table other call same long = by (sound ledger table (length table)) refl
  where
    sound_same : sound ledger table (length table) ≡ sound ledger other (length other)
    sound_same = same_sound (record { fit = ap (leb ledger.entries) long; entries = λ few within. same })

    books_same : books_of ledger table ≡ books_of ledger other
    books_same = λ i. record (books_of ledger table) { room = long i; entries = map entry_particulars (same i) }

    by : (stands : Bool) → sound ledger table (length table) ≡ stands → SameByEntries (state_of ledger table) (state_of ledger other) call
    by true stands =
        let alike : Alike ledger table other = record {
          entries = same;
          many = length-take-le ledger.entries table (sound_means ledger table (length table) stands).figures.in_table;
        } in
        let after : Left (carried_out (state_of ledger table) (decided (books_of ledger table) call)) (carried_out (state_of ledger other) (decided (books_of ledger other) call)) =
        subst (λ (books : Books). Left (carried_out (state_of ledger table) (decided (books_of ledger table) call)) (carried_out (state_of ledger other) (decided books call)))
        books_same (carried_left ledger table other alike (decided (books_of ledger table) call)) in
        record {
          answer = rw (stands, sym sound_same ∙ stands) (ap (λ (books : Books). answer_to books (decided books call)) books_same);
          ledger = rw (stands, sym sound_same ∙ stands) after.ledger;
          entries = rw (stands, sym sound_same ∙ stands) after.entries;
        }
    by false unsound =
        record {
          answer = rw (unsound, sym sound_same ∙ unsound) (ap (λ (books : Books). answer_to books (refused (refusal ledger_unsound 0 0))) books_same);
          ledger = rw (unsound, sym sound_same ∙ unsound);
          entries = rw (unsound, sym sound_same ∙ unsound) same;
        }
