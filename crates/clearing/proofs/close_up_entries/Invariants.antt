-- The entries passed that stay stand at the start of the table as it was.
use Rattle.std.proofs.Common.{take}
use Rattle.ledger.specs.Limits.{highest_credited}
use Rattle.clearing.specs.Clearing.{gone_numbers, entry_stays, entry_paid_out}
use Rattle.clearing.proofs.ClosingUp.{Closing}
use Rattle.clearing.proofs.close_up_entries.Given as goal

abbrev pub invariant-loop-i : goal.invariant-loop-i
invariant-loop-i l =
    let gone = gone_numbers l.going (take l.ledger.count l.ledger.schemes) in
    Closing (entry_stays gone) (entry_paid_out gone) highest_credited l.fn.table l.fn.table l.table l.left l.gone l.i
