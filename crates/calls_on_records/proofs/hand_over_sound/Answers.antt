-- On a table that is sound the change is the call (hand_over_kept), and so it is on the array's first records (on_sound_records).
use Rattle.std.proofs.Common.{rules}
use Rattle.entry_calls.proofs.Kept.{hand_over_kept}
use Rattle.calls_on_records.proofs.ByRoom.{on_sound_records}
use Rattle.calls_on_records.proofs.hand_over_sound.Goals as goal

pub returns : goal.returns
returns c =
    let made = c.hand_over_sound.ensures in
    on_sound_records c.args.room _ c.args.parties.now (search rules) c.records_of-records.ensures _ c.hand_over_sound.auto.table c.args.ledger.now _ _ _ c.requires
    (λ stands. hand_over_kept _ _ stands _ _ made.answer made.after)
