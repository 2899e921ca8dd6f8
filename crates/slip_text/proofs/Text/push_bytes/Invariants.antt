-- The text is the old one and the bytes so far; there is room for those to come.
use Rattle.std.proofs.Common.{length, take, ◌++◌, ◌+◌, ◌≡◌}
use Rattle.slip_text.proofs.Text.push_bytes.Given as goal

abbrev pub invariant-loop-byte : goal.invariant-loop-byte
invariant-loop-byte l = (l.self ≡ l.initial.self ++ take l.byte-index l.bytes) × (length l.self ≡ length l.initial.self + l.byte-index)
