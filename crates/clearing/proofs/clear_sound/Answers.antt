-- 7, and then what closing up leaves is what the call does (cleared_leaves).
use Rattle.std.proofs.Common.{sym, ◌≡◌, arith, length, take, length-take-le, get_or-take}
use Rattle.ledger.specs.Records.{no_scheme}
use Rattle.ledger.proofs.Theorems.Sound.{sound_means, fees_at_most}
use Rattle.calls.proofs.Theorems.Promised.{promise_from}
use Rattle.clearing.proofs.Going.{said_here}
use Rattle.clearing.proofs.Theorems.ClearingIsCall.{cleared_leaves, cleared_answers, early_promised}
use Rattle.clearing.proofs.clear_sound.Goals as goal

pub returns-then-month-ledger : goal.returns-then-month-ledger
returns-then-month-ledger c = rw c.of_call.ensures (early_promised _ _ _ c.requires.stands c.if-month-ledger.true)

pub close_up_schemes-schemes-requires-clause-few : goal.close_up_schemes-schemes-requires-clause-few
close_up_schemes-schemes-requires-clause-few c = (sound_means _ _ _ c.requires.stands).figures.schemes

pub close_up_schemes-schemes-requires-clause-places : goal.close_up_schemes-schemes-requires-clause-places
close_up_schemes-schemes-requires-clause-places c k below =
    let means = sound_means _ _ _ c.requires.stands in
    said_here _ _ k c.going_schemes-going.result c.args.ledger.now.schemes means.numbers.schemes_in_order
    (omega (arith, means.figures.schemes, c.going_schemes-going.ensures.places)) (omega (arith, means.figures.schemes, c.requires.places)) below

pub close_up_schemes-schemes-requires-clause-rest : goal.close_up_schemes-schemes-requires-clause-rest
close_up_schemes-schemes-requires-clause-rest c = (sound_means _ _ _ c.requires.stands).figures.rest_zero

pub close_up_schemes-schemes-requires-clause-fees : goal.close_up_schemes-schemes-requires-clause-fees
close_up_schemes-schemes-requires-clause-fees c k below =
    let means = sound_means _ _ _ c.requires.stands in
    let many : length (take c.args.ledger.now.count c.args.ledger.now.schemes) ≡ c.args.ledger.now.count =
    length-take-le c.args.ledger.now.count c.args.ledger.now.schemes (omega (arith, means.figures.schemes, c.requires.places)) in
    rw (get_or-take c.args.ledger.now.count c.args.ledger.now.schemes k no_scheme below)
    at (fees_at_most _ _ _ means.figures k (omega (arith, many, below)))

pub overflow_add-ledger-2 : goal.overflow_add-ledger-2
overflow_add-ledger-2 c =
    let means = sound_means _ _ _ c.requires.stands in
    omega (
      arith,
      means.numbers.cleared_limit,
      means.numbers.next_entry,
      means.figures.connections,
      c.close_up_entries-entries.ensures.within,
      c.close_up_schemes-schemes.ensures.within,
    )

pub overflow_add-ledger-3 : goal.overflow_add-ledger-3
overflow_add-ledger-3 c =
    let means = sound_means _ _ _ c.requires.stands in
    omega (
      arith,
      means.numbers.cleared_account,
      means.numbers.cleared_limit,
      means.numbers.next_entry,
      means.figures.connections,
      c.close_up_entries-entries.ensures.within,
    )

pub overflow_add-ledger-4 : goal.overflow_add-ledger-4
overflow_add-ledger-4 c =
    let means = sound_means _ _ _ c.requires.stands in
    omega (
      arith,
      means.numbers.cleared_account,
      means.numbers.cleared_limit,
      means.numbers.next_entry,
      means.figures.connections,
      c.close_up_schemes-schemes.ensures.within,
    )

pub returns : goal.returns
returns c =
    let entries = c.close_up_entries-entries.ensures in
    let schemes = c.close_up_schemes-schemes.ensures in
    let stands = c.requires.stands in
    let in_order = c.if-month-ledger.false in
    rw (entries.left, entries.gone, entries.table, schemes.left, schemes.gone, schemes.schemes, c.going_schemes-going.ensures.gone)
    (promise_from (sym (cleared_answers _ _ _ stands in_order)) (cleared_leaves _ _ _ stands in_order))
