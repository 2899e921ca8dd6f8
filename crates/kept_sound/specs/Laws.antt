-- The laws that the functions of src/ are there for, one statement each; the proofs stand in proofs/.
use Rattle.std.specs.Prelude.{ℕ, ◌+◌, ◌≤◌, ◌≡◌, List, true, length, get_or, ◌<◌, Bool, cond, map, filter, None, Some, is_some}
use Rattle.charge.specs.BillLimits.{BillWithin}
use Rattle.charge.specs.declared.Bill.{Bill}
use Rattle.ledger.specs.Limits.{most_schemes, most_connections}
use Rattle.ledger.specs.Lists.{All, at_start}
use Rattle.ledger.specs.Records.{no_scheme, no_party}
use Rattle.ledger.specs.Lookup.{scheme_place}
use Rattle.ledger.specs.EntryPlace.{entry_place}
use Rattle.ledger.specs.Sound.{sound}
use Rattle.ledger.specs.declared.records.Scheme.{Scheme}
use Rattle.ledger.specs.declared.records.Party.{Party}
use Rattle.calls.specs.Decision.{Call, clear, is_done, credits_by, goes}
use Rattle.calls.specs.Carried.{State, books_on, schemes_on, entries_on, booked, joined, opened, cleared_of}
use Rattle.calls.specs.Calls.{answered, leaves, Fits}
use Rattle.calls.specs.declared.courses.Joining.{Joining}
use Rattle.kept_sound.specs.SoundState.{SoundState, WholeState, Joinable, PlaceLeft, RoomFor}
use Rattle.calls.specs.Verdict.{entries_of_joining}

-- from a sound ledger with 64 places every call leaves a sound one
abbrev pub CallKeepsSound : Type 0
CallKeepsSound =
    (state : State) (call : Call) → length state.ledger.schemes ≡ most_schemes → Fits call →
    sound state.ledger state.table (length state.table) ≡ true →
    sound (leaves state call).ledger (leaves state call).table (length state.table) ≡ true

-- and one with 64 places
abbrev pub LeavesPlaces : Type 0
LeavesPlaces =
    (state : State) (call : Call) → length state.ledger.schemes ≡ most_schemes →
    length (leaves state call).ledger.schemes ≡ most_schemes

-- over a table as long as before
abbrev pub LeavesLength : Type 0
LeavesLength =
    (state : State) (call : Call) → length state.ledger.schemes ≡ most_schemes →
    length (leaves state call).table ≡ length state.table

-- and past the entries that stand then the records that stood there before, from any ledger
abbrev pub LeavesRest : Type 0
LeavesRest = (state : State) (call : Call) → (leaves state call).table ≡ at_start (entries_on (leaves state call)) state.table

-- the request is booked
abbrev pub BookedKeepsSound : Type 0
BookedKeepsSound =
    (bill : Bill) (state : State) → BillWithin bill → state.ledger.connections < most_connections →
    state.ledger.month ≤ bill.applicant.month → SoundState state → SoundState (booked bill state)

-- what becomes of the joining
abbrev pub JoinedKeepsSound : Type 0
JoinedKeepsSound =
    (bill : Bill) (state : State) (within : BillWithin bill) (whole : WholeState state) → (joining : Joining) → Joinable (schemes_on state) bill joining → RoomFor (entries_of_joining joining) state →
    SoundState (joined joining (credits_by (books_on state) bill joining) bill state)

-- what becomes of the opening
abbrev pub OpenedKeepsSound : Type 0
OpenedKeepsSound =
    (bill : Bill) (state : State) (within : BillWithin bill) (whole : WholeState state) → (opens : Bool) → (opens ≡ true → PlaceLeft state) → bill.applicant.month ≤ state.ledger.month →
    RoomFor (cond opens 1 0) state → SoundState (opened opens bill state)

-- what a clearing removes
abbrev pub ClearKeepsSound : Type 0
ClearKeepsSound =
    (month : ℕ) (state : State) → state.ledger.month ≤ month → SoundState state →
    SoundState (cleared_of month (map (λ row. row.number) (filter (goes (books_on state) month) (books_on state).schemes)) state)

-- ---- what a clearing removes and what it leaves, both ways, by the records alone

-- "ended by that month", and "entries all have standing credit 0"
pub record MustGo (month : ℕ) (entries : List Party) (scheme : Scheme) : Type 0 where
  pub ended : scheme.opening + scheme.term ≤ month
  pub paid_out : All (λ entry. entry.scheme ≡ scheme.number → entry.credited ≡ entry.paid_out) entries

-- it is found by its number, as it is
abbrev pub SchemeStands : State → Scheme → Type 0
SchemeStands state scheme =
    (k : ℕ) × (scheme_place scheme.number (schemes_on state) ≡ Some k) × (get_or (schemes_on state) k no_scheme ≡ scheme)

abbrev pub EntryStands : State → Party → Type 0
EntryStands state entry = (k : ℕ) × (entry_place entry.number (entries_on state) ≡ Some k) × (get_or (entries_on state) k no_party ≡ entry)

pub record Clears (month : ℕ) (before after : State) : Type 0 where
  pub schemes_go : All (λ scheme. MustGo month (entries_on before) scheme → scheme_place scheme.number (schemes_on after) ≡ None) (schemes_on before)
  pub schemes_stay : All (λ scheme. (MustGo month (entries_on before) scheme → ⊥) → SchemeStands after scheme) (schemes_on before)
  -- an entry goes with its scheme
  pub entries_go : All (λ entry. scheme_place entry.scheme (schemes_on after) ≡ None → entry_place entry.number (entries_on after) ≡ None) (entries_on before)
  pub entries_stay : All (λ entry. is_some (scheme_place entry.scheme (schemes_on after)) ≡ true → EntryStands after entry) (entries_on before)
  -- and nothing is new
  pub schemes_before : All (SchemeStands before) (schemes_on after)
  pub entries_before : All (EntryStands before) (entries_on after)

-- from any sound ledger
abbrev pub ClearsExactly : Type 0
ClearsExactly =
    (state : State) (month : ℕ) → sound state.ledger state.table (length state.table) ≡ true → state.ledger.month ≤ month →
    (answered state (clear month) ≡ is_done) × Clears month state (leaves state (clear month))
