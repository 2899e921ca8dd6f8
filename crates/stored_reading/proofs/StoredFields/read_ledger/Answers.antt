-- The rows say how long the head is and how many schemes there may be (Walking).
use Rattle.std.proofs.Common.{ap, arith, length, ◌∙◌}
use Rattle.stored_reading.proofs.Walking.{head_long, few_schemes_walked}
use Rattle.stored_reading.proofs.StoredFields.read_ledger.Goals as goal

pub read_added-added-requires : goal.read_added-added-requires
read_added-added-requires c =
    let form = c.args.self.form in
    let s = c.args.self.fields.now in (
      ap length c.find-head.ensures.bytes ∙ head_long form s c.args.self.walks,
      omega (arith, c.read_records-count.ensures.count, few_schemes_walked form s c.args.self.walks),
      c.requires.1,
    )
