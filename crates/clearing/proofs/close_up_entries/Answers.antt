-- One entry more, which goes (entry_goes_on) or stays (entry_stays_on); the table has it as it was (still).
use Rattle.std.proofs.Common.{sym, ◌∙◌, ◌<◌, arith, length}
use Rattle.ledger.specs.Records.{no_party}
use Rattle.ledger.proofs.Theorems.Sound.{sound_means}
use Rattle.clearing.proofs.ClosingUp.{still, in_table, paid_within, entry_goes_on, entry_stays_on}
use Rattle.clearing.proofs.close_up_entries.Goals as goal
use Rattle.clearing.proofs.close_up_entries.Goals.{then-goes, else-goes}

pub slice_copy_out-party : goal.slice_copy_out-party
slice_copy_out-party c = omega (arith, in_table _ _ c.requires, c.loop-i-test.true, c.loop-i.auto.table)

pub goes-requires : goal.goes-requires
goes-requires c = ((sound_means _ _ _ c.requires).figures.schemes, (sound_means _ _ _ c.requires).numbers.schemes_in_order)

pub overflow_add-gone : goal.overflow_add-gone
overflow_add-gone c =
    let below = c.loop-i-test.true in
    let same = still no_party c.loop-i.invariant (omega (arith, in_table _ _ c.requires, below)) in
    rw same
    (omega (arith, c.loop-i.invariant.within, paid_within _ _ c.requires c.loop-i.i below, (sound_means _ _ _ c.requires).figures.entries, below))

pub move_one-requires : goal.move_one-requires
move_one-requires c = (
  omega (arith, in_table _ _ c.requires, c.loop-i-test.true, c.loop-i.auto.table),
  omega (arith, in_table _ _ c.requires, c.loop-i-test.true, c.loop-i.auto.table, c.loop-i.invariant.few),
)

pub loop-i-preserved : goal.loop-i-preserved
loop-i-preserved c =
    let below = c.loop-i-test.true in
    let fits : c.loop-i.i < length c.args.table.now = omega (arith, in_table _ _ c.requires, below) in
    elim c.if-goes.branch [
      | then-goes w ↦
          rw (w.table-is, w.left-is, w.gone-is)
          (entry_goes_on _ _ _ _ c.loop-i.invariant fits (sym c.goes.ensures ∙ w.if-goes.true) (paid_within _ _ c.requires c.loop-i.i below))
      | else-goes w ↦
          rw (w.table-is, w.left-is, w.gone-is, w.move_one.ensures)
          (entry_stays_on _ _ _ _ c.loop-i.invariant fits (sym c.goes.ensures ∙ w.if-goes.false))
    ]

pub returns-clause-within : goal.returns-clause-within
returns-clause-within c = omega (arith, c.loop-i.invariant.within, (sound_means _ _ _ c.requires).figures.entries, c.loop-i.auto.i-end)
