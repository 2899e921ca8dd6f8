-- Every call leaves a sound ledger sound, whatever it answers, and the ledger's 64 places and the table's length as they are: a call that is refused changes
-- nothing, and each step of one that isn't keeps them.
use Rattle.std.specs.Prelude.{ℕ, ◌+◌, ◌≤◌, ◌≡◌, refl, true, map, filter, length, get_or, None, Option, Some, option_map}
use Rattle.std.proofs.Common.{sym, ap, subst, ◌∙◌, arith}
use Rattle.tagged.proofs.Theorems.Impossible.{impossible}
use Rattle.charge.specs.BillLimits.{BillWithin}
use Rattle.charge.proofs.Theorems.Bill.{priced_within}
use Rattle.charge.specs.declared.Bill.{Bill}
use Rattle.ledger.specs.Limits.{most_schemes}
use Rattle.ledger.specs.Records.{no_party}
use Rattle.ledger.specs.Updates.{with_person, with_paid_out}
use Rattle.ledger.specs.Books.{EntryParticulars, entry_particulars, entry_at}
use Rattle.ledger.specs.EntryPlace.{entry_place}
use Rattle.ledger.proofs.Theorems.Lookup.{placed}
use Rattle.ledger.specs.Sound.{sound}
use Rattle.ledger.proofs.Theorems.Sound.{sound_means, means_sound}
use Rattle.calls.specs.Decision.{Call, Decision, paid_out, handed_over, goes, credits_by, decided}
use Rattle.calls.specs.Carried.{State, books_on, schemes_on, entries_on, booked, joined, opened, is_paid, is_handed, carried_out}
use Rattle.calls.specs.Calls.{leaves, Fits}
use Rattle.calls.proofs.Theorems.Lists.{by_cond}
use Rattle.calls.proofs.Theorems.ByPlace.{entry_by_place}
use Rattle.calls.proofs.Theorems.VerdictConditions.{CourseConditions, JoiningConditions, joining_conditions, pays_at}
use Rattle.calls.specs.declared.courses.Joining.{Joining}
use Rattle.calls.specs.declared.courses.Joining.TheVariants.{NotAsked, Ended, Small, Pays}
use Rattle.calls.specs.declared.courses.Course.{Course}
use Rattle.kept_sound.specs.SoundState.{SoundState, WholeState, Joinable}
use Rattle.kept_sound.proofs.Theorems.EachDecision.{by_decision}
use Rattle.kept_sound.proofs.Theorems.Lengths.{Lengths, changed_lengths, cleared_lengths, joined_state, joining_room, after_joining, opening_room, opening_place, accepted_lengths}
use Rattle.kept_sound.proofs.Theorems.SoundSteps.{booked_keeps_sound, joined_keeps_sound, opened_keeps_sound}
use Rattle.kept_sound.proofs.Theorems.EntryChanged.{paid_alike, handed_alike, changed_keeps_sound}
use Rattle.kept_sound.proofs.Theorems.Entering.{some_same}
use Rattle.kept_sound.proofs.Theorems.Clearing.{clear_keeps_sound}
use Rattle.kept_sound.specs.EntryPlaced.{EntryPlaced}

-- ---- an accepted course
module _ (state : State) (whole : WholeState state) (bill : Bill) (course : Course) (has : CourseConditions (books_on state) bill course) where
  course_joinable : Joinable (schemes_on state) bill course.joining
  course_joinable =
      by course.joining (subst (λ joining. JoiningConditions (books_on state) bill joining) (sym (ap (λ c. c.joining) has.is)) (joining_conditions (books_on state) bill))
    where
      by : (joining : Joining) → JoiningConditions (books_on state) bill joining → Joinable (schemes_on state) bill joining
      by NotAsked asks = tt
      by Ended asks = tt
      by Small asks = tt
      by (Pays paid) pays = pays_at state.ledger state.table bill paid pays

  accepted_keeps_sound : BillWithin bill → SoundState (opened course.opens bill (joined_state state whole bill course has))
  accepted_keeps_sound within =
      let after = after_joining state whole bill course has in
      let now = joined_state state whole bill course has in
      let booking : SoundState (booked bill state) = booked_keeps_sound bill state within has.connections has.month whole.sound in
      let joining : SoundState now =
      subst (λ credits. SoundState (joined course.joining credits bill (booked bill state))) (same_credits course.joining)
      (joined_keeps_sound bill (booked bill state) within (record { places = whole.places; sound = booking }) course.joining course_joinable
      (joining_room state whole bill course has)) in
      opened_keeps_sound bill now within (record { places = after.lengths.schemes ∙ whole.places; sound = joining }) course.opens
      (opening_place state whole bill course has) (omega (arith, after.month)) (opening_room state whole bill course has)
    where
      -- what is booked changes no entry
      same_credits : (joining : Joining) → credits_by (books_on (booked bill state)) bill joining ≡ credits_by (books_on state) bill joining
      same_credits NotAsked = refl
      same_credits Ended = refl
      same_credits Small = refl
      same_credits (Pays paid) = refl

entry_placed : (state : State) (e : ℕ) (row : EntryParticulars) → entry_at (books_on state) e ≡ Some row → EntryPlaced state row
entry_placed state e row is = by (entry_place e (entries_on state)) refl (sym is ∙ entry_by_place state.ledger state.table e)
  where
    by : (at : Option ℕ) → entry_place e (entries_on state) ≡ at → Some row ≡ option_map (λ k. entry_particulars (get_or (entries_on state) k no_party)) at →
        EntryPlaced state row
    by None at shown = impossible cc
    by (Some k) at shown =
        let same : row ≡ entry_particulars (get_or (entries_on state) k no_party) = some_same shown in
        let number : e ≡ row.number = sym (placed (λ entry. entry.number) (entries_on state) no_party e k at).1 ∙ ap (λ r. r.number) (sym same) in
        record { place = k; placed = rw number at at; shown = same }

-- ---- by the call
module _ (state : State) (whole : WholeState state) where
  unchanged : Lengths state state
  unchanged = record { table = refl; schemes = refl }

  decided_lengths : (call : Call) → Lengths state (carried_out state (decided (books_on state) call))
  decided_lengths call =
      by_decision {Known = λ call. Unit {0}} {P = λ decision. Lengths state (carried_out state decision)}
      (record {
        refuses = λ r. unchanged;
        accepts = λ book request known bill is course has. accepted_lengths state whole bill course has;
        pays_out = λ e amount row at enough. record { table = changed_lengths (is_paid row.number amount) state; schemes = refl };
        hands_over = λ e person known row at. record { table = changed_lengths (is_handed row.number person) state; schemes = refl };
        clears = λ month known in_order. cleared_lengths month (map (λ row. row.number) (filter (goes (books_on state) month) (books_on state).schemes)) state whole;
      })
      call tt

  abbrev KeepsSound : Decision → Type 0
  KeepsSound decision = SoundState (carried_out state decision)

  pays_out_keeps_sound : (amount : ℕ) (row : EntryParticulars) → EntryPlaced state row → row.paid_out + amount ≤ row.credited →
      KeepsSound (paid_out row.scheme row.number amount)
  pays_out_keeps_sound amount row at enough =
      let party = get_or (entries_on state) at.place no_party in
      subst (λ row. KeepsSound (paid_out row.scheme row.number amount)) (sym at.shown)
      (changed_keeps_sound state (λ party. with_paid_out (party.paid_out + amount) party) party.number at.place (rw (ap (λ r. r.number) at.shown) at at.placed)
      (paid_alike (schemes_on state) party amount (rw at.shown at enough)) whole.sound)

  hands_over_keeps_sound : (person : ℕ) (row : EntryParticulars) → EntryPlaced state row → KeepsSound (handed_over row.number person)
  hands_over_keeps_sound person row at =
      let party = get_or (entries_on state) at.place no_party in
      subst (λ row. KeepsSound (handed_over row.number person)) (sym at.shown)
      (changed_keeps_sound state (with_person person) party.number at.place (rw (ap (λ r. r.number) at.shown) at at.placed)
      (handed_alike (schemes_on state) party person) whole.sound)

  decided_keeps_sound : (call : Call) → Fits call → KeepsSound (decided (books_on state) call)
  decided_keeps_sound =
      by_decision {P = KeepsSound}
      (record {
        refuses = λ r. whole.sound;
        accepts =
            λ book request fits bill is course has.
            accepted_keeps_sound state whole bill course has (priced_within book request bill fits.0 fits.1 is);
        pays_out = λ e amount row at. pays_out_keeps_sound amount row (entry_placed state e row at);
        hands_over = λ e person fits row at. hands_over_keeps_sound person row (entry_placed state e row at);
        clears = λ month fits in_order. clear_keeps_sound month state in_order whole.sound;
      })

-- ---- every call

-- "13: ledger unsound, or table shorter than its entries": such a ledger isn't changed at all
pub by_soundness : (P : State → Type 0) (state : State) (call : Call) →
    (SoundState state → P (carried_out state (decided (books_on state) call))) → P state → P (leaves state call)
unfolding leaves
by_soundness P state call where_sound unchanged =
    by_cond (λ decision. P (carried_out state decision)) (sound state.ledger state.table (length state.table)) _ _
    (λ stands. where_sound (sound_means state.ledger state.table (length state.table) stands)) (λ unsound. unchanged)

leaves_lengths : (state : State) (call : Call) → length state.ledger.schemes ≡ most_schemes → Lengths state (leaves state call)
leaves_lengths state call places =
    by_soundness (Lengths state) state call (λ sound. decided_lengths state (record { places = places; sound = sound }) call)
    (record { table = refl; schemes = refl })

pub leaves_length : (state : State) (call : Call) → length state.ledger.schemes ≡ most_schemes →
    length (leaves state call).table ≡ length state.table
leaves_length state call places = (leaves_lengths state call places).table

pub leaves_places : (state : State) (call : Call) → length state.ledger.schemes ≡ most_schemes →
    length (leaves state call).ledger.schemes ≡ most_schemes
leaves_places state call places = (leaves_lengths state call places).schemes ∙ places

pub call_keeps_sound : (state : State) (call : Call) → length state.ledger.schemes ≡ most_schemes → Fits call →
    sound state.ledger state.table (length state.table) ≡ true →
    sound (leaves state call).ledger (leaves state call).table (length state.table) ≡ true
call_keeps_sound state call places fits holds =
    let left : SoundState (leaves state call) =
    by_soundness SoundState state call (λ sound. decided_keeps_sound state (record { places = places; sound = sound }) call fits)
    (sound_means state.ledger state.table (length state.table) holds) in
    subst (λ room. sound (leaves state call).ledger (leaves state call).table room ≡ true) (leaves_length state call places)
    (means_sound (leaves state call).ledger (leaves state call).table (length (leaves state call).table) left)
