-- The files of a call, and how the call ends.
use Rattle.std.specs.Prelude.{ℕ, ◌≤◌, cond, length}
use Rattle.tagged.specs.File.{refusal}
use Rattle.tagged.specs.Refusals.{output_too_short}
use Rattle.calls.specs.Decision.{Call, accept, pay_out, hand_over, clear}
use Rattle.quoting_unit.specs.Interface.{UnitEnding, Lent}
use Rattle.quoting_unit.specs.Unit.{UnitCall, price, slip_text, on_ledger, check_ledger, move_to_new, move_back, too_short, made}
use Rattle.quoting_unit.specs.Interface as unit
use Rattle.quoting_unit.specs.Unit as calls

-- the files of a call have at most so many bytes
abbrev pub CallFiles : ℕ → Call → Type 0
CallFiles size (accept book request) = (length book ≤ size) × (length request ≤ size)
CallFiles size (pay_out entry amount) = Unit {0}
CallFiles size (hand_over entry person) = Unit {0}
CallFiles size (clear month) = Unit {0}

-- ---- every call of the unit
abbrev pub FilesWithin : ℕ → UnitCall → Type 0
FilesWithin size (price book request) = (length book ≤ size) × (length request ≤ size)
FilesWithin size (slip_text book request) = Unit {0}
FilesWithin size calls.new_ledger = Unit {0}
FilesWithin size (on_ledger stored table_size call) = (length stored ≤ size) × CallFiles size call
FilesWithin size (check_ledger stored table_size) = length stored ≤ size
FilesWithin size (move_to_new file) = length file ≤ size
FilesWithin size (move_back file) = length file ≤ size

-- how a call ends, 14 for short buffers included
abbrev pub ending_of : UnitCall → Lent → UnitEnding
ending_of call lent = cond (too_short call lent) (unit.is_refused (refusal output_too_short 0 0) 0) (made call lent).ending
