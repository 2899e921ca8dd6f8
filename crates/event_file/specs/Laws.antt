-- The laws that the functions without code are there for, one statement each.
use Rattle.std.specs.Prelude.{ℕ, ◌+◌, ◌-◌, ◌<◌, ◌≡◌, ◌⊎◌, true, length, get_or, set, drop, Err, Ok}
use Rattle.std.specs.List.{AllByRecursion}
use mathlib.Core.List.{List, ◌∷◌, Memᴰ}
use Rattle.numbers.specs.BigEndian.{Bytes}
use Rattle.field_walk.specs.Walk.{length_at, FieldAt, value_of, fields}
use Rattle.tagged.specs.Refusals.{file_does_not_walk, check_differs}
use Rattle.tagged.specs.File.{refusal}
use Rattle.tagged.specs.WalkRelations.{Fields}
use Rattle.event_file.specs.EventFile.{event_stands, front_value, front_stands, events_walk, events_answer, FileEvent, event_of, events_of, events_in}
use Rattle.event_file.specs.Written.{event_file, EventWithin}

-- one byte of a file is another byte
abbrev pub AlteredEventsRefused : Type 0
AlteredEventsRefused =
    (file : List ℕ) (i b : ℕ) → Bytes file → i < length file → b < 256 → (get_or file i 0 ≡ b → ⊥) → events_answer file ≡ Ok tt →
    (events_answer (set file i b) ≡ Err (refusal file_does_not_walk 1 0)) ⊎ (events_answer (set file i b) ≡ Err (refusal check_differs 1 (length file - 2)))

-- what is written is read
abbrev pub EventsReadBack : Type 0
EventsReadBack =
    (events : List FileEvent) → AllByRecursion EventWithin events → (events_answer (event_file events) ≡ Ok tt) × (events_in (event_file events) ≡ events)

-- the fields of a file that walks follow one another to its end
abbrev pub EventsFollow : Type 0
EventsFollow = (s : List ℕ) (fs : List FieldAt) → events_walk s ≡ fields fs → Fields s 0 fs

-- and each is an event that stands
abbrev pub EventsStand : Type 0
EventsStand = (s : List ℕ) (fs : List FieldAt) → events_walk s ≡ fields fs → (f : FieldAt) → Memᴰ f fs → event_stands f.tag (value_of s f) ≡ true

-- the events of fields at whose front one stands: it, and those of the rest after it
abbrev pub NextEvents : Type 0
NextEvents = (s : List ℕ) → front_stands s ≡ true → events_of s ≡ event_of (get_or s 0 0) (front_value s) ∷ events_of (drop (length_at s + 3) s)
