-- The loop keeps that the fields of the records passed are written; a turn writes the next where they end (one_record_more).
use Rattle.std.proofs.Common.{length, map, take, ◌≡◌}
use Rattle.numbers.specs.Written.{written}
use Rattle.tagged.specs.Encoded.{encoded_parts}
use Rattle.stored_writing.proofs.write_records.Given as goal

abbrev pub invariant-loop-i : goal.invariant-loop-i
invariant-loop-i g l = (l.out ≡ written l.initial.out l.at (encoded_parts (map (g.R.StoredRecord.part l.form) (take l.i l.records)))) × (length l.out ≡ length l.initial.out)
