-- A field is its tag, its length and its record's bytes, with the number first where the form has one (field_pion, field_pio2).
use Rattle.stored_writing.proofs.Fields.{field_pion, field_pio2}
use Rattle.stored_writing.proofs.write_record.Goals as goal

pub returns-in-Pion : goal.returns-in-Pion
returns-in-Pion g c =
    let record_type = g.R.StoredRecord in
    let laws = g.met.R.StoredRecord in
    let form = c.args.form in
    let one = c.args.one in
    rw (c.write_figures.ensures, c.write_start.ensures, c.TAG.ensures, c.size.ensures)
    (field_pion c.args.out.now c.args.at record_type.TAG (record_type.number one) record_type.widths (record_type.values one) (laws.lengths one) form
    (record_type.part form one) (record_type.size form) (laws.parts form one) (laws.sizes form) c.requires c.in-Pion.is)

pub returns-in-Pio2 : goal.returns-in-Pio2
returns-in-Pio2 g c =
    let record_type = g.R.StoredRecord in
    let laws = g.met.R.StoredRecord in
    let form = c.args.form in
    let one = c.args.one in
    rw (c.write_figures-in-Pio2.ensures, c.write.ensures, c.number.ensures, c.write_start.ensures, c.TAG.ensures, c.size.ensures)
    (field_pio2 c.args.out.now c.args.at record_type.TAG (record_type.number one) record_type.widths (record_type.values one) (laws.lengths one) form
    (record_type.part form one) (record_type.size form) (laws.parts form one) (laws.sizes form) c.requires c.in-Pio2.is)
