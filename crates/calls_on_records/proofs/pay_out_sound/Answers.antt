-- On a table that is sound the change is the call (pay_out_kept), and so it is on the array's first records (on_sound_records).
use Rattle.std.proofs.Common.{rules}
use Rattle.entry_calls.proofs.Kept.{pay_out_kept}
use Rattle.calls_on_records.proofs.ByRoom.{on_sound_records}
use Rattle.calls_on_records.proofs.pay_out_sound.Goals as goal

pub returns : goal.returns
returns c =
    let made = c.pay_out_sound.ensures in
    on_sound_records c.args.room _ c.args.parties.now (search rules) c.records_of-records.ensures _ c.pay_out_sound.auto.table c.args.ledger.now _ _ _ c.requires
    (λ stands. pay_out_kept _ _ stands _ _ made.answer made.after)
