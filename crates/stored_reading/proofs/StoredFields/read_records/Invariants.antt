-- The loop keeps that the records of the fields passed stand in the first places (Collected); the rows allow no more of them than places, so each has its place.
use Rattle.std.proofs.Common.{length}
use Rattle.stored_reading.proofs.Collecting.{Collected}
use Rattle.stored_reading.proofs.StoredFields.read_records.Given as goal

abbrev pub invariant-loop-field : goal.invariant-loop-field
invariant-loop-field g l = Collected (g.R.StoredRecord.of_bytes l.self.form) g.R.StoredRecord.TAG (g.R.StoredRecord.size l.self.form) l.self.fields.now l.initial.records l.records l.count l.rest

abbrev pub decreases-loop-field : goal.decreases-loop-field
decreases-loop-field g l = length l.rest
