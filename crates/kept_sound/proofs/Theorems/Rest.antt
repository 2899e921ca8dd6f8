-- Every call leaves the records past the last entry: it puts the entries that stand then at the start of the table, and writes no more of it.
use Rattle.std.specs.Prelude.{ℕ, zero, suc, ◌+◌, ◌≤◌, ◌≡◌, refl, List, [], ◌∷◌, ◌++◌, map, filter, not, Bool, true, false, length, take}
use Rattle.std.proofs.Common.{sym, ap, ◌∙◌, arith, length-append, length-take-le}
use Rattle.std.proofs.lemmas.List.{length-map}
use Rattle.charge.specs.declared.Bill.{Bill}
use Rattle.ledger.specs.Lists.{at_start}
use Rattle.ledger.specs.RefusalNumbers.{one_of}
use Rattle.ledger.specs.declared.records.Party.{Party}
use Rattle.ledger.specs.declared.records.Ledger.{Ledger}
use Rattle.calls.specs.Rules.{Credit}
use Rattle.calls.specs.Decision.{Call, goes, credits_by, decided}
use Rattle.calls.specs.Calls.{leaves}
use Rattle.calls.specs.Carried.{State, books_on, carried_out, entries_on, new_party, booked, is_credited, joined, opened, is_paid, is_handed, cleared_of}
use Rattle.calls.specs.declared.courses.Joining.{Joining}
use Rattle.calls.specs.declared.courses.Joining.TheVariants.{NotAsked, Ended, Small, Pays}
use Rattle.kept_sound.specs.SoundState.{SoundState}
use Rattle.kept_sound.proofs.Theorems.AtStart.{take_at_start, at_start_again}
use Rattle.kept_sound.proofs.Theorems.EachDecision.{by_decision}
use Rattle.kept_sound.proofs.Theorems.KeptSound.{by_soundness}

-- what stands first is at the start already
first_at_start : {A : Type 0} (n : ℕ) (xs : List A) → xs ≡ at_start (take n xs) xs
first_at_start zero xs = refl
first_at_start (suc n) [] = refl
first_at_start (suc n) (x ∷ xs) = ap (λ l. x ∷ l) (first_at_start n xs)

abbrev RestLeft : State → State → Type 0
RestLeft before after = after.table ≡ at_start (entries_on after) before.table

-- a table that has all its entries
record Left (before after : State) : Type 0 where
  rest : RestLeft before after
  many : length (entries_on after) ≡ after.ledger.entries

module _ {before state : State} (left : Left before state) where
  -- these entries at the start, no fewer than before
  put_left : (ledger : Ledger) (entries : List Party) → length entries ≡ ledger.entries → state.ledger.entries ≤ ledger.entries →
      Left before (record { ledger = ledger; table = at_start entries state.table })
  put_left ledger entries many no_fewer =
      let shown : take ledger.entries (at_start entries state.table) ≡ entries = take_at_start entries state.table ledger.entries many in
      record {
        rest =
            ap (at_start entries) left.rest
            ∙ at_start_again entries (entries_on state) before.table (omega (arith, left.many))
            ∙ ap (λ entries. at_start entries before.table) (sym shown);
        many = ap length shown ∙ many;
      }

  changed_left : (each : Party → Party) → Left before (record state { table = at_start (map each (entries_on state)) state.table })
  changed_left each = put_left state.ledger (map each (entries_on state)) (length-map (entries_on state) each ∙ left.many) (omega arith)

  one_more : (entries : List Party) (party : Party) → length entries ≡ state.ledger.entries → length (entries ++ (party ∷ [])) ≡ state.ledger.entries + 1
  one_more entries party many = omega (arith, length-append entries (party ∷ []), many)

  booked_left : (bill : Bill) → Left before (booked bill state)
  booked_left bill = record { rest = left.rest; many = left.many }

  joined_left : (joining : Joining) (credits : List Credit) (bill : Bill) → Left before (joined joining credits bill state)
  joined_left NotAsked credits bill = left
  joined_left Ended credits bill = left
  joined_left Small credits bill = left
  joined_left (Pays paid) credits bill =
      let s = bill.applicant.scheme in
      let earlier : List Party = map (is_credited s credits) (entries_on state) in
      let joiner : Party = new_party state.ledger.next_entry s bill paid.collected in
      put_left (joined (Pays paid) credits bill state).ledger (earlier ++ (joiner ∷ []))
      (one_more earlier joiner (length-map (entries_on state) (is_credited s credits) ∙ left.many)) (omega arith)

  opened_left : (opens : Bool) (bill : Bill) → Left before (opened opens bill state)
  opened_left false bill = left
  opened_left true bill =
      let opener : Party = new_party state.ledger.next_entry state.ledger.next_scheme bill bill.reconciliation.x in
      put_left (opened true bill state).ledger (entries_on state ++ (opener ∷ [])) (one_more (entries_on state) opener left.many) (omega arith)

-- fewer may stand after a clearing
cleared_rest : (month : ℕ) (gone : List ℕ) (state : State) → RestLeft state (cleared_of month gone state)
cleared_rest month gone state =
    let entries : List Party = filter (λ entry. not (one_of gone entry.scheme)) (entries_on state) in
    ap (λ entries. at_start entries state.table) (sym (take_at_start entries state.table (length entries) refl))

-- ---- by the call
unchanged_rest : (state : State) → RestLeft state state
unchanged_rest state = first_at_start state.ledger.entries state.table

module _ (state : State) (sound : SoundState state) where
  unchanged : Left state state
  unchanged = record { rest = unchanged_rest state; many = length-take-le state.ledger.entries state.table sound.figures.in_table }

  decided_rest : (call : Call) → RestLeft state (carried_out state (decided (books_on state) call))
  decided_rest call =
      by_decision {Known = λ call. Unit {0}} {P = λ decision. RestLeft state (carried_out state decision)}
      (record {
        refuses = λ r. unchanged_rest state;
        accepts =
            λ book request known bill is course has.
            (opened_left (joined_left (booked_left unchanged bill) course.joining (credits_by (books_on state) bill course.joining) bill) course.opens bill).rest;
        pays_out = λ e amount row at enough. (changed_left unchanged (is_paid row.number amount)).rest;
        hands_over = λ e person known row at. (changed_left unchanged (is_handed row.number person)).rest;
        clears = λ month known in_order. cleared_rest month (map (λ row. row.number) (filter (goes (books_on state) month) (books_on state).schemes)) state;
      })
      call tt

pub leaves_rest : (state : State) (call : Call) → (leaves state call).table ≡ at_start (entries_on (leaves state call)) state.table
leaves_rest state call = by_soundness (RestLeft state) state call (λ sound. decided_rest state sound call) (unchanged_rest state)
