-- The lemmas of Collecting, at the loop's invariant: no tactic finds their arguments. The start also takes what the trait says of the record's fields.
use Rattle.std.proofs.Common.{sym, arith, ◌∙◌}
use Rattle.stored.specs.StoredRows.{stored_rows}
use Rattle.stored_reading.proofs.Collecting.{collect_starts, collect_ends, collect_passes, collect_sized, collect_room, collect_one_more}
use Rattle.stored_reading.proofs.Walking.{fields_walk}
use Rattle.stored_reading.proofs.StoredFields.read_records.Goals as goal
use Rattle.stored_reading.proofs.StoredFields.read_records.Goals.{then-field-TAG, else-field-TAG}

pub loop-field-init : goal.loop-field-init
loop-field-init g c =
    let s = c.args.self.fields.now in
    let record_type = g.met.R.StoredRecord in
    let form = c.args.self.form in
    let walks = fields_walk form s c.args.self.walks in
    let few = record_type.few form s walks in
    collect_starts (stored_rows form) walks (record_type.sized form s walks) (omega (arith, few, record_type.most_fits)) (omega (arith, few, c.requires))

pub read_record-requires : goal.read_record-requires
read_record-requires g c = omega (arith, collect_sized c.loop-field.invariant c.in-Some.ensures (c.if-field-TAG.true ∙ c.TAG.ensures))

pub bounds-records-count : goal.bounds-records-count
bounds-records-count g c =
    omega (arith, collect_room c.loop-field.invariant c.in-Some.ensures (c.if-field-TAG.true ∙ c.TAG.ensures), c.loop-field.auto.records)

pub loop-field-preserved : goal.loop-field-preserved
loop-field-preserved g c =
    elim c.if-field-TAG.branch [
      | then-field-TAG w ↦
          rw (w.records-is, w.count-is, w.read_record.ensures)
          (collect_one_more c.loop-field.invariant c.in-Some.ensures (w.if-field-TAG.true ∙ c.TAG.ensures))
      | else-field-TAG w ↦
          rw (w.records-is, w.count-is)
          (collect_passes c.loop-field.invariant c.in-Some.ensures (λ same. w.if-field-TAG.false (same ∙ sym c.TAG.ensures)))
    ]

pub returns : goal.returns
returns g c = let ends = collect_ends c.loop-field.invariant c.in_default.ensures in record { stored = ends.0; count = ends.1 }
