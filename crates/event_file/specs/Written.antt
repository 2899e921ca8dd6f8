-- The bytes of events, and of the file that they make up.
use Rattle.std.specs.Prelude.{ℕ, ◌+◌, ◌^◌, ◌<◌, ◌≤◌, length}
use mathlib.Core.List.{List, ◌++◌, map}
use Rattle.numbers.specs.BigEndian.{bytes_of}
use Rattle.tagged.specs.Encoded.{closed}
use Rattle.event_file.specs.EventRows.{accept_tag, pay_out_tag, hand_over_tag, clear_tag, withdraw_tag}
use Rattle.event_file.specs.EventFile.{FileEvent, accept, pay_out, hand_over, clear, withdraw}

-- an event's tag and value
abbrev pub event_part : FileEvent → ℕ × List ℕ
event_part (accept book request) = (accept_tag, bytes_of 2 (length book) ++ (book ++ request))
event_part (pay_out entry amount) = (pay_out_tag, bytes_of 4 entry ++ bytes_of 8 amount)
event_part (hand_over entry person) = (hand_over_tag, bytes_of 4 entry ++ bytes_of 4 person)
event_part (clear month) = (clear_tag, bytes_of 2 month)
event_part (withdraw entry) = (withdraw_tag, bytes_of 4 entry)

abbrev pub event_file : List FileEvent → List ℕ
event_file events = closed (map event_part events)

-- what has such bytes: numbers within their widths, and book and request within a field's length less 2
abbrev pub EventWithin : FileEvent → Type 0
EventWithin (accept book request) = length book + length request ≤ 65533
EventWithin (pay_out entry amount) = (entry < 256 ^ 4) × (amount < 256 ^ 8)
EventWithin (hand_over entry person) = (entry < 256 ^ 4) × (person < 256 ^ 4)
EventWithin (clear month) = month < 256 ^ 2
EventWithin (withdraw entry) = entry < 256 ^ 4
