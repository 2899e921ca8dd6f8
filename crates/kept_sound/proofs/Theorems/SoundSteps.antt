-- Each step of a call keeps a sound ledger sound: what accept books, a joining and an opening.
use Rattle.std.specs.Prelude.{ℕ, ◌+◌, ◌-◌, ◌<◌, ◌≤◌, ◌≡◌, refl, List, [], ◌∷◌, ◌++◌, map, Bool, true, false, cond, ◌⊎◌, length, get_or, set, None, Option, Some, is_some}
use Rattle.std.proofs.Common.{sym, ap, subst, ◌∙◌, inl, inr, arith, length-set, length-take, length-take-le, length-append, get_or-take, get_or-set_same, get_or-set_other}
use Rattle.std.proofs.Math.ListN.{get_or-append}
use Rattle.std.proofs.Math.Seq.{map-set_same, take-set-lt}
use Rattle.std.proofs.lemmas.Bool.{false≢true}
use Rattle.std.proofs.lemmas.List.{length-map, map-append, get_or_at}
use Rattle.charge.specs.BillLimits.{BillWithin}
use Rattle.charge.specs.declared.Bill.{Bill}
use Rattle.ledger.specs.Limits.{most_connections}
use Rattle.ledger.specs.Records.{no_scheme, no_party}
use Rattle.ledger.specs.Updates.{with_fees}
use Rattle.ledger.specs.Columns.{scheme_column}
use Rattle.ledger.specs.CapacityColumns.{capacity_column, capacity_of}
use Rattle.ledger.proofs.Theorems.Columns.{column_at, sum_none}
use Rattle.ledger.specs.Lookup.{scheme_place}
use Rattle.ledger.proofs.Theorems.Lookup.{placed, one_place, stands_same, stands_more, stands_last}
use Rattle.ledger.proofs.Theorems.Rising.{rise_each, rise_more}
use Rattle.ledger.proofs.Theorems.Table.{credit_none, entered_table}
use Rattle.ledger.specs.SoundConditions.{SoundScheme}
use Rattle.ledger.proofs.Theorems.Sound.{some_capacity, cost_at_most}
use Rattle.ledger.specs.declared.records.Scheme.{Scheme}
use Rattle.ledger.specs.declared.records.Ledger.{Ledger}
use Rattle.calls.specs.Verdict.{entries_of_joining}
use Rattle.calls.specs.VerdictConditions.{PaysAt}
use Rattle.calls.specs.Decision.{credits_by}
use Rattle.calls.proofs.Theorems.CreditColumns.{credits_sum_own, credits_sum_other}
use Rattle.calls.specs.Carried.{State, books_on, schemes_on, entries_on, new_party, new_scheme, booked, joined, opened}
use Rattle.calls.proofs.Theorems.ByPlace.{fee_taken_at, length_credits_among, joined_by_place, opened_by_place}
use Rattle.calls.specs.ByPlace.{credits_among}
use Rattle.calls.specs.declared.courses.Contribution.{Contribution}
use Rattle.calls.specs.declared.courses.Joining.{Joining}
use Rattle.calls.specs.declared.courses.Joining.TheVariants.{NotAsked, Ended, Small, Pays}
use Rattle.kept_sound.specs.SoundState.{SoundState, WholeState, PlaceLeft, RoomFor, Joinable}
use Rattle.kept_sound.proofs.Theorems.Entering.{same_or_other, some_same, Addition, credited_in, other_scheme, joined_scheme, opened_scheme, new_party_sound, NewEntry, standing, entries_with, entering_keeps_sound}

-- ---- booked
pub booked_keeps_sound : (bill : Bill) (state : State) → BillWithin bill → state.ledger.connections < most_connections →
    state.ledger.month ≤ bill.applicant.month → SoundState state → SoundState (booked bill state)
booked_keeps_sound bill state within few in_order h =
    let figures = h.figures in
    let numbers = h.numbers in
    record {
      figures =
          record {
            schemes = figures.schemes;
            entries = figures.entries;
            in_table = figures.in_table;
            connections = omega arith;
            charged = omega (arith, figures.charged, within.figures.cc);
            borne = omega (arith, figures.borne, within.figures.borne);
            each_party = figures.each_party;
            each_scheme =
                λ k below.
                let scheme = figures.each_scheme k below in
                record {
                  fee = scheme.fee;
                  minimum = scheme.minimum;
                  term = scheme.term;
                  opening = omega (arith, scheme.opening);
                  some_entry = scheme.some_entry;
                  first = scheme.first;
                  fees = scheme.fees;
                  account = scheme.account;
                };
            rest_zero = figures.rest_zero;
          };
      numbers =
          record {
            schemes_in_order = numbers.schemes_in_order;
            entries_in_order = numbers.entries_in_order;
            next_scheme = numbers.next_scheme;
            next_entry = omega (arith, numbers.next_entry);
            cleared_account = numbers.cleared_account;
            cleared_limit = numbers.cleared_limit;
          };
    }

-- ---- joined

-- a joiner that pays, on a ledger with an entry left
record PayingJoiner (state : State) : Type 0 where
  whole : WholeState state
  room : RoomFor 1 state
  bill : Bill
  within : BillWithin bill
  paid : Contribution
  can : PaysAt (schemes_on state) bill paid

module _ {state : State} (joiner : PayingJoiner state) where
  abbrev ledger : Ledger
  ledger = state.ledger

  abbrev number : ℕ
  number = joiner.bill.applicant.scheme

  -- its place among the schemes that stand
  abbrev place : ℕ
  place = joiner.can.place

  abbrev schemes : List Scheme
  schemes = schemes_on state

  abbrev scheme : Scheme
  scheme = get_or schemes place no_scheme

  -- G less the fee
  abbrev credit : ℕ
  credit = joiner.paid.collected - joiner.paid.fee

  abbrev fee_taken : Scheme
  fee_taken = with_fees (scheme.fees + joiner.paid.fee) scheme

  abbrev added : Addition
  added =
      record {
        earlier = entries_on state;
        amounts = credits_among number credit (entries_on state);
        party = new_party ledger.next_entry number joiner.bill joiner.paid.collected;
        few = omega (arith, length_credits_among number credit (entries_on state));
      }

  abbrev joiner_entry : NewEntry
  joiner_entry =
      record {
        next_scheme = ledger.next_scheme;
        count = ledger.count;
        schemes = fee_taken_at place joiner.paid.fee ledger.schemes;
        amounts = added.amounts;
        party = added.party;
      }

  found : (place < length schemes) × (scheme.number ≡ number)
  found = placed (λ scheme. scheme.number) schemes no_scheme number place joiner.can.at

  kept : place < ledger.count
  kept = omega (arith, found.0, length-take ledger.count ledger.schemes)

  -- the schemes that stand then
  now_standing : standing joiner_entry ≡ set schemes place fee_taken
  now_standing =
      take-set-lt ledger.count ledger.schemes place (with_fees ((get_or ledger.schemes place no_scheme).fees + joiner.paid.fee) (get_or ledger.schemes place no_scheme)) kept
      ∙ ap (λ scheme. set schemes place (with_fees (scheme.fees + joiner.paid.fee) scheme)) (sym (get_or-take ledger.count ledger.schemes place no_scheme kept))

  same_numbers : map (λ scheme. scheme.number) (standing joiner_entry) ≡ map (λ scheme. scheme.number) schemes
  same_numbers =
      ap (map (λ scheme. scheme.number)) now_standing ∙ map-set_same (λ scheme. scheme.number) schemes place fee_taken no_scheme (refl {a = scheme.number})

  scheme_before : SoundScheme ledger.month (entries_on state) scheme
  scheme_before = joiner.whole.sound.figures.each_scheme place found.0

  -- G less the fee is credited, all of it to the scheme's entries
  credited_sum : credited_in scheme.number added + joiner.paid.fee ≡ joiner.paid.collected
  credited_sum =
      rw found.1
      (omega (
        arith,
        credits_sum_own number credit (scheme_column (entries_on state)) (capacity_column (entries_on state))
            (subst (λ s. 1 ≤ capacity_of s (scheme_column (entries_on state)) (capacity_column (entries_on state))) found.1
            (some_capacity ledger state.table (length state.table) joiner.whole.sound.figures place found.0)),
        joiner.can.fee,
        joiner.can.minimum,
        scheme_before.fee,
      ))

  each_joined : (k : ℕ) → k < length (set schemes place fee_taken) → SoundScheme ledger.month (entries_with state joiner_entry) (get_or (set schemes place fee_taken) k no_scheme)
  each_joined k below = by (same_or_other place k)
    where
      within : k < length schemes
      within = omega (arith, length-set schemes place fee_taken)

      by : (place ≡ k) ⊎ (place ≡ k → ⊥) → SoundScheme ledger.month (entries_with state joiner_entry) (get_or (set schemes place fee_taken) k no_scheme)
      by (inl same) =
          rw (sym same, get_or-set_same schemes place fee_taken no_scheme found.0)
          (joined_scheme ledger.month added scheme joiner.paid.fee
          (record { due = joiner.can.fee; own = sym found.1; uncredited = refl; shared = credited_sum })
          scheme_before)
      by (inr other) =
          let s : ℕ = (get_or schemes k no_scheme).number in
          let apart : number ≡ s → ⊥ =
          λ same.
          absurd
          (other
          (some_same (one_place (λ scheme. scheme.number) schemes no_scheme ledger.next_scheme 0 joiner.whole.sound.numbers.schemes_in_order place k found.0 within (found.1 ∙ same)))) in
          rw (get_or-set_other schemes place k fee_taken no_scheme (λ same. other (sym same)))
          (other_scheme ledger.month added (get_or schemes k no_scheme) apart
          (credits_sum_other number s credit (scheme_column (entries_on state)) (capacity_column (entries_on state)) apart)
          (joiner.whole.sound.figures.each_scheme k within))

  pays_keeps_sound : SoundState (joined (Pays joiner.paid) (credits_by (books_on state) joiner.bill (Pays joiner.paid)) joiner.bill state)
  pays_keeps_sound =
      let numbers = joiner.whole.sound.numbers in
      subst SoundState
      (sym
      (joined_by_place state joiner.bill credit place joiner.paid joiner.can.at numbers.schemes_in_order numbers.entries_in_order
      (omega (arith, joiner.room.in_table))))
      (entering_keeps_sound state joiner_entry
      (record {
        before = joiner.whole.sound;
        room = joiner.room;
        limit = joiner.whole.sound.figures.schemes;
        schemes_in_order = rw same_numbers numbers.schemes_in_order;
        next_scheme = numbers.next_scheme;
        grown = λ s stood. stands_same (λ scheme. scheme.number) s (standing joiner_entry) schemes same_numbers ∙ stood;
        numbered = refl;
        new_party_stands =
            new_party_sound (standing joiner_entry) ledger.next_entry number joiner.bill joiner.paid.collected joiner.within
            (stands_same (λ scheme. scheme.number) number (standing joiner_entry) schemes same_numbers ∙ ap is_some joiner.can.at)
            (omega (arith, joiner.can.cost, cost_at_most ledger state.table (length state.table) joiner.whole.sound.figures place found.0));
        each_scheme = rw now_standing each_joined;
        rest_zero =
            λ i past.
            get_or-set_other ledger.schemes place i (with_fees ((get_or ledger.schemes place no_scheme).fees + joiner.paid.fee) (get_or ledger.schemes place no_scheme))
            no_scheme (λ same. omega (arith, kept))
            ∙ joiner.whole.sound.figures.rest_zero i past;
      }))

module _ (bill : Bill) (state : State) (within : BillWithin bill) (whole : WholeState state) where
  pub joined_keeps_sound : (joining : Joining) → Joinable (schemes_on state) bill joining → RoomFor (entries_of_joining joining) state →
      SoundState (joined joining (credits_by (books_on state) bill joining) bill state)
  joined_keeps_sound NotAsked can room = whole.sound
  joined_keeps_sound Ended can room = whole.sound
  joined_keeps_sound Small can room = whole.sound
  joined_keeps_sound (Pays paid) can room =
      pays_keeps_sound (record { whole = whole; room = room; bill = bill; within = within; paid = paid; can = can })

  -- ---- opened
  abbrev new : Scheme
  new = new_scheme state.ledger.next_scheme bill

  abbrev opener_entry : NewEntry
  opener_entry =
      record {
        next_scheme = state.ledger.next_scheme + 1;
        count = state.ledger.count + 1;
        schemes = set state.ledger.schemes state.ledger.count new;
        amounts = [];
        party = new_party state.ledger.next_entry state.ledger.next_scheme bill bill.reconciliation.x;
      }

  module _ (left : PlaceLeft state) where
    place_left : state.ledger.count < length state.ledger.schemes
    place_left = omega (arith, left.place, whole.places)

    schemes_many : length (schemes_on state) ≡ state.ledger.count
    schemes_many = length-take-le state.ledger.count state.ledger.schemes (omega (arith, place_left))

    -- the new scheme is the last that stands
    with_new : standing opener_entry ≡ schemes_on state ++ (new ∷ [])
    with_new = entered_table state.ledger.schemes state.ledger.count new place_left

    numbers_with_new : map (λ scheme. scheme.number) (schemes_on state ++ (new ∷ [])) ≡ map (λ scheme. scheme.number) (schemes_on state) ++ (state.ledger.next_scheme ∷ [])
    numbers_with_new = map-append (λ scheme. scheme.number) (schemes_on state) (new ∷ [])

    -- no scheme that stood has the new number
    below_new : (k : ℕ) → k < length (schemes_on state) → (get_or (schemes_on state) k no_scheme).number < state.ledger.next_scheme
    below_new k below =
        let numbers = map (λ scheme. scheme.number) (schemes_on state) in
        let many : length numbers ≡ length (schemes_on state) = length-map (schemes_on state) (λ scheme. scheme.number) in
        rw (sym (column_at (λ scheme. scheme.number) (schemes_on state) k no_scheme (omega arith)))
        (rise_each state.ledger.next_scheme 0 numbers whole.sound.numbers.schemes_in_order k (omega arith)).1

    -- so no entry is of it
    no_entry : (e : ℕ) → e < length (entries_on state) → (get_or (entries_on state) e no_party).scheme ≡ state.ledger.next_scheme → ⊥
    no_entry e below own = by (scheme_place (get_or (entries_on state) e no_party).scheme (schemes_on state)) refl (whole.sound.figures.each_party e below).stands
      where
        by : (at : Option ℕ) → scheme_place (get_or (entries_on state) e no_party).scheme (schemes_on state) ≡ at → is_some at ≡ true → ⊥
        by None at stands = false≢true stands
        by (Some k) at stands =
            let found = placed (λ scheme. scheme.number) (schemes_on state) no_scheme (get_or (entries_on state) e no_party).scheme k at in
            omega (arith, below_new k found.0, found.1, own)

    each_opened : bill.applicant.month ≤ state.ledger.month → (k : ℕ) → k < length (schemes_on state ++ (new ∷ [])) →
        SoundScheme state.ledger.month (entries_with state opener_entry) (get_or (schemes_on state ++ (new ∷ [])) k no_scheme)
    each_opened passed k below = by (same_or_other (length (schemes_on state)) k)
      where
        by : (length (schemes_on state) ≡ k) ⊎ (length (schemes_on state) ≡ k → ⊥) →
            SoundScheme state.ledger.month (entries_with state opener_entry) (get_or (schemes_on state ++ (new ∷ [])) k no_scheme)
        by (inl same) =
            rw (sym same, get_or_at (schemes_on state) new [] no_scheme (length (schemes_on state)) refl)
            (opened_scheme state.ledger.month state.ledger.next_scheme state.ledger.next_entry (entries_on state) bill within passed no_entry)
        by (inr other) =
            let before : k < length (schemes_on state) = omega (arith, length-append (schemes_on state) (new ∷ [])) in
            rw (get_or-append (schemes_on state) (new ∷ []) no_scheme k before)
            (other_scheme state.ledger.month (record { earlier = entries_on state; amounts = []; party = opener_entry.party; few = omega arith })
            (get_or (schemes_on state) k no_scheme) (λ same. omega (arith, below_new k before))
            (sum_none (get_or (schemes_on state) k no_scheme).number (scheme_column (entries_on state)) [] (λ e there own. refl))
            (whole.sound.figures.each_scheme k before))

  pub opened_keeps_sound : (opens : Bool) → (opens ≡ true → PlaceLeft state) → bill.applicant.month ≤ state.ledger.month →
      RoomFor (cond opens 1 0) state → SoundState (opened opens bill state)
  opened_keeps_sound false few passed room = whole.sound
  opened_keeps_sound true few passed room =
      let left : PlaceLeft state = few refl in
      let numbers = whole.sound.numbers in
      let told =
      entering_keeps_sound state opener_entry
      (record {
        before = whole.sound;
        room = room;
        limit = omega (arith, left.place);
        schemes_in_order =
            rw (with_new left, numbers_with_new left)
            (rise_more state.ledger.next_scheme (state.ledger.next_scheme + 1) 0 (map (λ scheme. scheme.number) (schemes_on state)) (omega arith) numbers.schemes_in_order);
        next_scheme = omega (arith, left.number);
        grown = λ s stood. rw (with_new left) (stands_more (λ scheme. scheme.number) s (schemes_on state) (new ∷ []) stood);
        numbered = refl;
        new_party_stands =
            new_party_sound (standing opener_entry) state.ledger.next_entry state.ledger.next_scheme bill bill.reconciliation.x within
            (rw (with_new left) (stands_last (λ scheme. scheme.number) state.ledger.next_scheme (schemes_on state) new refl)) within.figures.x;
        each_scheme = rw (with_new left) (each_opened left passed);
        rest_zero =
            λ i past.
            get_or-set_other state.ledger.schemes state.ledger.count i new no_scheme (λ same. omega arith)
            ∙ whole.sound.figures.rest_zero i (omega arith);
      }) in
      subst SoundState (sym (opened_by_place state bill (place_left left) (omega (arith, room.in_table)))) (rw credit_none at told)
