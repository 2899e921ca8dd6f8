-- On a table that is sound the plan is the call (accept_kept), and so it is on the array's first records (on_records).
use Rattle.std.proofs.Common.{rules}
use Rattle.acceptance.proofs.Carrying.{accept_kept}
use Rattle.calls_on_records.proofs.ByRoom.{on_records}
use Rattle.calls_on_records.proofs.accept_sound.Goals as goal

pub returns : goal.returns
returns c =
    let made = c.accept_sound.ensures in
    on_records c.args.room _ c.args.parties.now (search rules) c.records_of-records.ensures _ c.accept_sound.auto.table c.args.ledger.now _ _ _
    (accept_kept _ _ c.requires.places _ _ made.answer made.ledger made.table)
