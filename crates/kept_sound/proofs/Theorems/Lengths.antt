-- What each step of a call leaves of the ledger's places for schemes and of the table's length: all of them, since records are put at the start of a list
-- that has room for them.
use Rattle.std.specs.Prelude.{ℕ, zero, suc, ◌+◌, ◌<◌, ◌≤◌, ◌≡◌, refl, List, [], ◌∷◌, ◌++◌, map, filter, not, Bool, true, false, cond, length, take}
use Rattle.std.proofs.Common.{sym, ◌∙◌, arith, length-take, length-append}
use Rattle.std.proofs.lemmas.List.{length-map, length-replicate}
use Rattle.ledger.specs.Records.{no_scheme, new_ledger}
use Rattle.ledger.specs.RefusalNumbers.{one_of}
use Rattle.charge.specs.declared.Bill.{Bill}
use Rattle.ledger.specs.Limits.{most_schemes, most_entries}
use Rattle.ledger.specs.Lists.{at_start}
use Rattle.ledger.specs.declared.records.Party.{Party}
use Rattle.calls.specs.Rules.{Credit}
use Rattle.calls.specs.Verdict.{entries_of_joining, entries_needed}
use Rattle.calls.specs.Decision.{credits_by}
use Rattle.calls.specs.Carried.{State, books_on, entries_on, schemes_on, new_party, new_scheme, booked, takes_fee, is_credited, joined, opened, cleared_of}
use Rattle.calls.proofs.Theorems.ByPlace.{length_at_start, entries_shown, schemes_shown}
use Rattle.calls.proofs.Theorems.VerdictConditions.{CourseConditions}
use Rattle.calls.specs.declared.courses.Joining.{Joining}
use Rattle.calls.specs.declared.courses.Joining.TheVariants.{NotAsked, Ended, Small, Pays}
use Rattle.calls.specs.declared.courses.Course.{Course}
use Rattle.kept_sound.specs.SoundState.{WholeState, PlaceLeft, RoomFor}

pub record Lengths (before after : State) : Type 0 where
  pub table : length after.table ≡ length before.table
  pub schemes : length after.ledger.schemes ≡ length before.ledger.schemes

pub length_filter : {A : Type 0} (test : A → Bool) (xs : List A) → length (filter test xs) ≤ length xs
length_filter test [] = omega arith
length_filter test (x ∷ xs) = by (test x) (length_filter test xs)
  where
    by : (kept : Bool) → length (filter test xs) ≤ length xs → length (cond kept (x ∷ filter test xs) (filter test xs)) ≤ suc (length xs)
    by true h = omega arith
    by false h = omega arith

-- the first of a list's records, each changed
mapped_lengths : {A : Type 0} (each : A → A) (n : ℕ) (xs : List A) → length (at_start (map each (take n xs)) xs) ≡ length xs
mapped_lengths each n xs = length_at_start (map each (take n xs)) xs (omega (arith, length-map (take n xs) each, length-take n xs))

-- and one more
more_lengths : {A : Type 0} (ys : List A) (x : A) (xs : List A) → length ys + 1 ≤ length xs → length (at_start (ys ++ (x ∷ [])) xs) ≡ length xs
more_lengths ys x xs room = length_at_start (ys ++ (x ∷ [])) xs (omega (arith, length-append ys (x ∷ [])))

-- ---- joining
pub record AfterJoining (joining : Joining) (before after : State) : Type 0 where
  pub lengths : Lengths before after
  pub month : after.ledger.month ≡ before.ledger.month
  pub count : after.ledger.count ≡ before.ledger.count
  pub connections : after.ledger.connections ≡ before.ledger.connections
  pub next_scheme : after.ledger.next_scheme ≡ before.ledger.next_scheme
  pub next_entry : after.ledger.next_entry ≡ before.ledger.next_entry + entries_of_joining joining
  pub entries : after.ledger.entries ≡ before.ledger.entries + entries_of_joining joining

module _ (credits : List Credit) (bill : Bill) (state : State) where
  none_entered : (joining : Joining) → entries_of_joining joining ≡ 0 → AfterJoining joining state state
  none_entered joining none = record { lengths = record { table = refl; schemes = refl }; month = refl; count = refl; connections = refl; next_scheme = refl; next_entry = omega arith; entries = omega arith }

  joined_leaves : (joining : Joining) → RoomFor (entries_of_joining joining) state → AfterJoining joining state (joined joining credits bill state)
  joined_leaves NotAsked room = none_entered NotAsked refl
  joined_leaves Ended room = none_entered Ended refl
  joined_leaves Small room = none_entered Small refl
  joined_leaves (Pays paid) room =
      let s = bill.applicant.scheme in
      let earlier : List Party = map (is_credited s credits) (entries_on state) in
      record {
        lengths =
            record {
              table =
                  more_lengths earlier (new_party state.ledger.next_entry s bill paid.collected) state.table
                  (omega (arith, room.in_table, length-map (entries_on state) (is_credited s credits), length-take state.ledger.entries state.table));
              schemes = mapped_lengths (takes_fee s paid.fee) state.ledger.count state.ledger.schemes;
            };
        month = refl;
        count = refl;
        connections = refl;
        next_scheme = refl;
        next_entry = refl;
        entries = refl;
      }

-- ---- opening
opened_lengths : (opens : Bool) (bill : Bill) (state : State) → (opens ≡ true → state.ledger.count < length state.ledger.schemes) →
    RoomFor (cond opens 1 0) state → Lengths state (opened opens bill state)
opened_lengths false bill state places room = record { table = refl; schemes = refl }
opened_lengths true bill state places room =
    record {
      table =
          more_lengths (entries_on state) (new_party state.ledger.next_entry state.ledger.next_scheme bill bill.reconciliation.x) state.table
          (omega (arith, room.in_table, length-take state.ledger.entries state.table));
      schemes =
          more_lengths (schemes_on state) (new_scheme state.ledger.next_scheme bill) state.ledger.schemes
          (omega (arith, places refl, length-take state.ledger.count state.ledger.schemes));
    }

-- ---- pay-out and hand-over
pub changed_lengths : (each : Party → Party) (state : State) → length (at_start (map each (entries_on state)) state.table) ≡ length state.table
changed_lengths each state = mapped_lengths each state.ledger.entries state.table

-- ---- clearing
pub cleared_lengths : (month : ℕ) (gone : List ℕ) (state : State) → WholeState state → Lengths state (cleared_of month gone state)
cleared_lengths month gone state whole =
    let zeros : length new_ledger.schemes ≡ most_schemes = length-replicate most_schemes no_scheme in
    record {
      table =
          length_at_start (filter (λ entry. not (one_of gone entry.scheme)) (entries_on state)) state.table
          (omega (arith, length_filter (λ entry. not (one_of gone entry.scheme)) (entries_on state), length-take state.ledger.entries state.table));
      schemes =
          length_at_start (filter (λ scheme. not (one_of gone scheme.number)) (schemes_on state)) new_ledger.schemes
          (omega (
            arith,
            zeros,
            length_filter (λ scheme. not (one_of gone scheme.number)) (schemes_on state),
            length-take state.ledger.count state.ledger.schemes,
            whole.sound.figures.schemes,
          ))
          ∙ zeros
          ∙ sym whole.places;
    }

-- ---- an accepted course: booked, joined, opened
module _ (state : State) (whole : WholeState state) (bill : Bill) (course : Course) (has : CourseConditions (books_on state) bill course) where
  abbrev pub joined_state : State
  joined_state = joined course.joining (credits_by (books_on state) bill course.joining) bill (booked bill state)

  -- what the course needs fits the table
  course_limit : state.ledger.entries + entries_needed course ≤ most_entries
  course_limit = by (entries_needed course) has.entries
    where
      by : (needed : ℕ) → (1 ≤ needed → length (books_on state).entries + needed ≤ most_entries) → state.ledger.entries + needed ≤ most_entries
      by zero limit = omega (arith, whole.sound.figures.entries)
      by (suc needed) limit = omega (arith, limit (omega arith), entries_shown state.ledger state.table whole.sound.figures.in_table)

  course_table : state.ledger.entries + entries_needed course ≤ length state.table
  course_table = by (entries_needed course) has.in_table
    where
      by : (needed : ℕ) → (1 ≤ needed → length (books_on state).entries + needed ≤ length state.table) → state.ledger.entries + needed ≤ length state.table
      by zero in_table = omega (arith, whole.sound.figures.in_table)
      by (suc needed) in_table = omega (arith, in_table (omega arith), entries_shown state.ledger state.table whole.sound.figures.in_table)

  -- a connection more allows two numbers more
  one_at_most : (joining : Joining) → entries_of_joining joining ≤ 1
  one_at_most NotAsked = omega arith
  one_at_most Ended = omega arith
  one_at_most Small = omega arith
  one_at_most (Pays paid) = omega arith

  opens_at_most : (opens : Bool) → cond opens 1 0 ≤ 1
  opens_at_most true = omega arith
  opens_at_most false = omega arith

  pub joining_room : RoomFor (entries_of_joining course.joining) (booked bill state)
  joining_room =
      record {
        limit = omega (arith, course_limit);
        in_table = omega (arith, course_table);
        numbers = omega (arith, whole.sound.numbers.next_entry, one_at_most course.joining);
      }

  pub after_joining : AfterJoining course.joining (booked bill state) joined_state
  after_joining = joined_leaves (credits_by (books_on state) bill course.joining) bill (booked bill state) course.joining joining_room

  pub opening_room : RoomFor (cond course.opens 1 0) joined_state
  opening_room =
      let after = after_joining in
      record {
        limit = omega (arith, course_limit, after.entries);
        in_table = omega (arith, course_table, after.entries, after.lengths.table);
        numbers = omega (arith, whole.sound.numbers.next_entry, after.next_entry, after.connections, one_at_most course.joining, opens_at_most course.opens);
      }

  pub opening_place : course.opens ≡ true → PlaceLeft joined_state
  opening_place opens =
      record {
        place =
            omega (
              arith,
              has.schemes opens,
              schemes_shown state.ledger state.table (omega (arith, whole.sound.figures.schemes, whole.places)),
              after_joining.count,
            );
        number = omega (arith, has.next_scheme opens, after_joining.next_scheme);
      }

  pub accepted_lengths : Lengths state (opened course.opens bill joined_state)
  accepted_lengths =
      let joining = after_joining.lengths in
      let opening =
      opened_lengths course.opens bill joined_state (λ opens. omega (arith, (opening_place opens).place, joining.schemes, whole.places)) opening_room in
      record { table = opening.table ∙ joining.table; schemes = opening.schemes ∙ joining.schemes }
