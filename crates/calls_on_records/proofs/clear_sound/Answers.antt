-- The promise on the array's first records (on_records).
use Rattle.std.proofs.Common.{rules}
use Rattle.calls_on_records.proofs.ByRoom.{on_records}
use Rattle.calls_on_records.proofs.clear_sound.Goals as goal

pub returns : goal.returns
returns c =
    on_records c.args.room _ c.args.parties.now (search rules) c.records_of-records.ensures _ c.clear_sound.auto.table c.args.ledger.now _ _ _
    c.clear_sound.ensures
