-- What the code tells of an event: the definition's event, with book and request as those very parts of the file.
use Rattle.std.specs.Prelude.{ℕ, ◌≡◌, List, true, slice_index}
use Rattle.std.specs.Borrow.{Bor}
use Rattle.tagged.specs.Parts.{value_place, rest_place, IsPart}
use Rattle.event_file.specs.EventFile.{book_place, request_place, front_stands, FileEvent, accept, pay_out, hand_over, clear, withdraw, event_of}
use Rattle.event_file.specs.declared.events.Event.{Event}
use Rattle.event_file.specs.declared.events.Event.TheVariants.{Accept, PayOut, HandOver, Clear, Withdraw}
use Rattle.event_file.specs.declared.events.NextEvent.{NextEvent}

abbrev pub told : Event → FileEvent
told (Accept book request) = accept book.now request.now
told (PayOut entry amount) = pay_out entry amount
told (HandOver entry person) = hand_over entry person
told (Clear month) = clear month
told (Withdraw entry) = withdraw entry

-- book and request are parts of the field's value
abbrev pub PartsOf : Bor (List ℕ) → Event → Type 0
PartsOf value (Accept book request) = IsPart (book_place value.now) value book × IsPart (request_place value.now) value request
PartsOf value _ = Unit {0}

pub record EventIs (tag : ℕ) (value : Bor (List ℕ)) (event : Event) : Type 0 where
  pub told_is : told event ≡ event_of tag value.now
  pub parts : PartsOf value event

-- the event that the rest of a file starts with: of its field's value, and the rest after it, as those very parts
pub record NextEventIs (s : Bor (List ℕ)) (next : NextEvent) : Type 0 where
  pub stands : front_stands s.now ≡ true
  pub value : Bor (List ℕ)
  pub value_is : IsPart (value_place s.now) s value
  pub event : EventIs (slice_index s.now 0) value next.event
  pub rest : IsPart (rest_place s.now) s next.rest
