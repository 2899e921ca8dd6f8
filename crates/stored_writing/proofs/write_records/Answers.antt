-- A turn writes one record more (one_record_more), whose length the trait says: a tactic doesn't look into a bound's facts.
use Rattle.std.proofs.Common.{rules, ◌+◌}
use Rattle.stored_writing.proofs.Fields.{record_sized, one_record_more}
use Rattle.stored_writing.proofs.write_records.Goals as goal

pub loop-i-preserved : goal.loop-i-preserved
loop-i-preserved g c =
    let record_type = g.R.StoredRecord in
    let form = c.args.form in
    let sized = record_sized (record_type.part form) record_type.TAG record_type.widths form record_type.number record_type.values (record_type.size form)
    (g.met.R.StoredRecord.parts form) (g.met.R.StoredRecord.sizes form) g.met.R.StoredRecord.lengths in (
      rw (c.write_record.ensures, c.loop-i.invariant.0, c.size.ensures)
          (one_record_more (record_type.part form) (record_type.size form + 3) sized c.args.out.now c.args.at c.args.records.now c.loop-i.i c.index-records-i.result c.index-records-i.is (search rules) c.requires),
      search rules,
    )
