-- Every step of a call keeps what the stored form needs beyond soundness: 64 places, months, terms and persons within their widths.
use Rattle.std.specs.Prelude.{ℕ, zero, suc, ◌+◌, ◌<◌, ◌≤◌, ◌≡◌, refl, List, [], ◌∷◌, ◌++◌, map, filter, Bool, true, false, cond, not, length, take, drop, replicate, eqb}
use Rattle.std.proofs.Common.{sym, subst, ◌∙◌, arith, length-append, length-take-le}
use Rattle.std.proofs.lemmas.List.{length-map, length-replicate}
use Rattle.charge.specs.BillLimits.{BillWithin}
use Rattle.charge.proofs.Theorems.Bill.{priced_within}
use Rattle.charge.specs.declared.Bill.{Bill}
use Rattle.ledger.specs.Limits.{most_schemes}
use Rattle.ledger.specs.Lists.{All, nil, more, at_start}
use Rattle.ledger.specs.Records.{no_scheme, new_ledger}
use Rattle.ledger.specs.RefusalNumbers.{one_of}
use Rattle.ledger.specs.declared.records.Scheme.{Scheme}
use Rattle.ledger.specs.declared.records.Party.{Party}
use Rattle.ledger.specs.declared.records.Ledger.{Ledger}
use Rattle.ledger.specs.Updates.{with_entry}
use Rattle.calls.proofs.Theorems.Lists.{all_append, all_filter}
use Rattle.calls.specs.Verdict.{entries_of_joining}
use Rattle.calls.proofs.Theorems.VerdictConditions.{CourseConditions}
use Rattle.calls.specs.Decision.{Call, accepted, goes, credits_by, decided}
use Rattle.calls.specs.Calls.{leaves, Fits}
use Rattle.calls.proofs.Theorems.ByPlace.{length_at_start}
use Rattle.calls.specs.Rules.{Credit}
use Rattle.calls.specs.Carried.{State, books_on, carried_out, entries_on, schemes_on, entered, new_party, booked, takes_fee, is_credited, fee_taken, joined, new_scheme, opened, is_paid, is_handed, cleared_of}
use Rattle.calls.specs.declared.courses.Joining.{Joining}
use Rattle.calls.specs.declared.courses.Joining.TheVariants.{NotAsked, Ended, Small, Pays}
use Rattle.calls.specs.declared.courses.Course.{Course}
use Rattle.kept_sound.specs.SoundState.{SoundState, WholeState, PlaceLeft, RoomFor}
use Rattle.kept_sound.specs.Kept.{PersonFits, TermFits, Kept}
use Rattle.kept_sound.proofs.Theorems.EachDecision.{by_decision}
use Rattle.kept_sound.proofs.Theorems.Lengths.{length_filter, joining_room, opening_room, opening_place}
use Rattle.kept_sound.proofs.Theorems.KeptSound.{by_soundness}
use Rattle.kept_sound.proofs.Theorems.AtStart.{take_at_start}

-- ---- lists
module _ {A : Type 0} where
  pub all_drop : {P : A → Type 0} (n : ℕ) {xs : List A} → All P xs → All P (drop n xs)
  all_drop zero h = h
  all_drop (suc n) nil = nil
  all_drop (suc n) (more h hs) = all_drop n hs

  pub all_take : {P : A → Type 0} (n : ℕ) {xs : List A} → All P xs → All P (take n xs)
  all_take zero h = nil
  all_take (suc n) nil = nil
  all_take (suc n) (more h hs) = more h (all_take n hs)

  all_changed : {P : A → Type 0} (each : A → A) → ((x : A) → P x → P (each x)) → {xs : List A} → All P xs → All P (map each xs)
  all_changed each kept nil = nil
  all_changed each kept (more {x} h hs) = more (kept x h) (all_changed each kept hs)

pub no_terms : (n : ℕ) → All TermFits (replicate n no_scheme)
no_terms zero = nil
no_terms (suc n) = more {x = no_scheme} (omega arith) (no_terms n)

-- ---- other entries, other schemes
module _ {room : ℕ} {state : State} (kept : Kept room state) where
  entries_many : length (entries_on state) ≡ state.ledger.entries
  entries_many = length-take-le state.ledger.entries state.table kept.in_table

  schemes_many : length (schemes_on state) ≡ state.ledger.count
  schemes_many = length-take-le state.ledger.count state.ledger.schemes (omega (arith, kept.in_places, kept.places))

  -- these entries at the start of the table
  put_kept : (ledger : Ledger) (entries : List Party) → ledger.entries ≡ length entries → length entries ≤ length state.table → All PersonFits entries →
      length ledger.schemes ≡ most_schemes → ledger.month < 65536 → All TermFits ledger.schemes → ledger.count ≤ most_schemes →
      Kept room (record { ledger = ledger; table = at_start entries state.table })
  put_kept ledger entries many within fit places month terms few =
      let as_before : length (at_start entries state.table) ≡ length state.table = length_at_start entries state.table within in
      record {
        places = places;
        month = month;
        terms = terms;
        persons = subst (All PersonFits) (sym (take_at_start entries state.table ledger.entries (sym many))) fit;
        in_places = few;
        in_table = omega (arith, many, within, as_before);
        as_long = as_before ∙ kept.as_long;
      }

  entered_kept : (entries : List Party) (party : Party) → length entries ≡ state.ledger.entries → state.ledger.entries < length state.table →
      All PersonFits entries → PersonFits party → Kept room (entered entries party state)
  entered_kept entries party many left fit fits =
      let one_more = length-append entries (party ∷ []) in
      put_kept (with_entry state.ledger) (entries ++ (party ∷ [])) (omega (arith, one_more, many)) (omega (arith, one_more, many)) (all_append fit (more fits nil))
      kept.places kept.month kept.terms kept.in_places

  changed_kept : (each : Party → Party) → ((party : Party) → PersonFits party → PersonFits (each party)) →
      Kept room (record state { table = at_start (map each (entries_on state)) state.table })
  changed_kept each fits =
      let many = length-map (entries_on state) each in
      put_kept state.ledger (map each (entries_on state)) (omega (arith, many, entries_many)) (omega (arith, many, entries_many, kept.in_table))
      (all_changed each fits kept.persons) kept.places kept.month kept.terms kept.in_places

  schemes_kept : (next_scheme count : ℕ) (schemes : List Scheme) → count ≤ most_schemes → length schemes ≤ most_schemes → All TermFits schemes →
      Kept room (record state { ledger = record state.ledger { next_scheme = next_scheme; count = count; schemes = at_start schemes state.ledger.schemes } })
  schemes_kept next_scheme count schemes few some fit =
      record {
        places = length_at_start schemes state.ledger.schemes (omega (arith, kept.places)) ∙ kept.places;
        month = kept.month;
        terms = all_append fit (all_drop (length schemes) kept.terms);
        persons = kept.persons;
        in_places = few;
        in_table = kept.in_table;
        as_long = kept.as_long;
      }

-- ---- accept: booked, joined, opened
by_same : {A : Type 0} (P : A → Type 0) (test : Bool) (x y : A) → P x → P y → P (cond test x y)
by_same P true x y one other = one
by_same P false x y one other = other

module _ {room : ℕ} (bill : Bill) (within : BillWithin bill) where
  booked_kept : {state : State} → Kept room state → Kept room (booked bill state)
  booked_kept kept =
      record {
        places = kept.places;
        month = within.month;
        terms = kept.terms;
        persons = kept.persons;
        in_places = kept.in_places;
        in_table = kept.in_table;
        as_long = kept.as_long;
      }

  fee_kept : (s fee : ℕ) {state : State} → Kept room state → Kept room (fee_taken s fee state)
  fee_kept s fee {state} kept =
      schemes_kept kept state.ledger.next_scheme state.ledger.count (map (takes_fee s fee) (schemes_on state)) kept.in_places
      (omega (arith, length-map (schemes_on state) (takes_fee s fee), schemes_many kept, kept.in_places))
      (all_changed (takes_fee s fee) (λ scheme fits. by_same TermFits (eqb s scheme.number) _ _ fits fits) (all_take state.ledger.count kept.terms))

  joined_kept : (joining : Joining) (credits : List Credit) {state : State} → RoomFor (entries_of_joining joining) state → Kept room state →
      Kept room (joined joining credits bill state)
  joined_kept NotAsked credits left kept = kept
  joined_kept Ended credits left kept = kept
  joined_kept Small credits left kept = kept
  joined_kept (Pays paid) credits {state} left kept =
      let s = bill.applicant.scheme in
      entered_kept (fee_kept s paid.fee kept) (map (is_credited s credits) (entries_on state)) (new_party state.ledger.next_entry s bill paid.collected)
      (length-map (entries_on state) (is_credited s credits) ∙ entries_many kept) (omega (arith, left.in_table))
      (all_changed (is_credited s credits) (λ party fits. by_same PersonFits (eqb s party.scheme) _ _ fits fits) kept.persons)
      within.person

  opened_kept : (opens : Bool) {state : State} → (opens ≡ true → PlaceLeft state) → RoomFor (cond opens 1 0) state →
      Kept room state → Kept room (opened opens bill state)
  opened_kept false few left kept = kept
  opened_kept true {state} few left kept =
      let new : Scheme = new_scheme state.ledger.next_scheme bill in
      let schemes = schemes_on state ++ (new ∷ []) in
      let many : length schemes ≡ state.ledger.count + 1 = omega (arith, length-append (schemes_on state) (new ∷ []), schemes_many kept) in
      entered_kept
      (schemes_kept kept (state.ledger.next_scheme + 1) (state.ledger.count + 1) schemes (omega (arith, (few refl).place)) (omega (arith, (few refl).place))
      (all_append (all_take state.ledger.count kept.terms) (more within.term_below nil)))
      (entries_on state) (new_party state.ledger.next_entry state.ledger.next_scheme bill bill.reconciliation.x) (entries_many kept) (omega (arith, left.in_table))
      kept.persons within.person

-- ---- clearing
cleared_kept : {room : ℕ} {state : State} (month : ℕ) (gone : List ℕ) → month < 65536 → Kept room state → Kept room (cleared_of month gone state)
cleared_kept {state} month gone fits kept =
    let schemes : List Scheme = filter (λ scheme. not (one_of gone scheme.number)) (schemes_on state) in
    let entries : List Party = filter (λ entry. not (one_of gone entry.scheme)) (entries_on state) in
    let zeros : length new_ledger.schemes ≡ most_schemes = length-replicate most_schemes no_scheme in
    let few : length schemes ≤ most_schemes =
    omega (arith, length_filter (λ scheme. not (one_of gone scheme.number)) (schemes_on state), schemes_many kept, kept.in_places) in
    put_kept kept (cleared_of month gone state).ledger entries refl
    (omega (arith, length_filter (λ entry. not (one_of gone entry.scheme)) (entries_on state), entries_many kept, kept.in_table))
    (all_filter (λ entry. not (one_of gone entry.scheme)) kept.persons)
    (length_at_start schemes new_ledger.schemes (omega (arith, few, zeros)) ∙ zeros) fits
    (all_append (all_filter (λ scheme. not (one_of gone scheme.number)) (all_take state.ledger.count kept.terms)) (all_drop (length schemes) (no_terms most_schemes)))
    few

-- ---- a call
module _ {room : ℕ} {state : State} (kept : Kept room state) where
  accepted_kept : SoundState state → (bill : Bill) (course : Course) → BillWithin bill → CourseConditions (books_on state) bill course →
      Kept room (carried_out state (accepted bill course (credits_by (books_on state) bill course.joining)))
  accepted_kept sound bill course within has =
      let whole : WholeState state = record { places = kept.places; sound = sound } in
      opened_kept bill within course.opens (opening_place state whole bill course has) (opening_room state whole bill course has)
      (joined_kept bill within course.joining (credits_by (books_on state) bill course.joining) (joining_room state whole bill course has)
      (booked_kept bill within kept))

  decided_kept : SoundState state → (call : Call) → Fits call → Kept room (carried_out state (decided (books_on state) call))
  decided_kept sound =
      by_decision {P = λ decision. Kept room (carried_out state decision)}
      (record {
        refuses = λ r. kept;
        accepts =
            λ book request fits bill is course has. accepted_kept sound bill course (priced_within book request bill fits.0 fits.1 is) has;
        pays_out =
            λ e amount row at enough.
            changed_kept kept (is_paid row.number amount) (λ party fits. by_same PersonFits (eqb row.number party.number) _ _ fits fits);
        hands_over =
            λ e person fits row at.
            changed_kept kept (is_handed row.number person) (λ party was. by_same PersonFits (eqb row.number party.number) _ _ fits.1 was);
        clears = λ month fits in_order. cleared_kept month (map (λ row. row.number) (filter (goes (books_on state) month) (books_on state).schemes)) fits kept;
      })

  pub call_kept : (call : Call) → Fits call → Kept room (leaves state call)
  call_kept call fits = by_soundness (Kept room) state call (λ sound. decided_kept sound call fits) kept
