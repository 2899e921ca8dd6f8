-- The schemes passed that stay stand at the start, over zeros in the places passed.
use Rattle.std.proofs.Common.{take, ◌*◌, ◌-◌}
use Rattle.field_values.specs.Limits.{highest_minimum}
use Rattle.ledger.specs.Limits.{most_entries}
use Rattle.clearing.specs.Clearing.{gone_numbers, scheme_stays, scheme_fees}
use Rattle.clearing.proofs.ClosingUp.{Closing, zeroed}
use Rattle.clearing.proofs.close_up_schemes.Given as goal

abbrev pub invariant-loop-k : goal.invariant-loop-k
invariant-loop-k l =
    let gone = gone_numbers l.going (take l.count l.fn.schemes) in
    Closing (scheme_stays gone) (scheme_fees gone) (highest_minimum * (most_entries - 1)) l.fn.schemes (zeroed l.k l.fn.schemes) l.schemes l.left l.gone l.k
