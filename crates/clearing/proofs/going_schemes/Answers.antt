-- What is said of each place, of the schemes that have ended and then of the entries, is whether the scheme there goes (going_is).
use Rattle.std.proofs.Common.{sym, ap, ◌∙◌, ◌&&◌, arith, take, get_or, length-take, length-take-le}
use Rattle.ledger.specs.Records.{no_scheme}
use Rattle.ledger.proofs.Theorems.Sound.{sound_means}
use Rattle.ledger.proofs.Theorems.Lookup.{own_places}
use Rattle.clearing.specs.Clearing.{settled}
use Rattle.clearing.proofs.Going.{going_is}
use Rattle.clearing.proofs.going_schemes.Goals as goal

pub shared_ref_as_front-schemes : goal.shared_ref_as_front-schemes
shared_ref_as_front-schemes c = (sound_means _ _ _ c.requires).figures.schemes

pub ended_schemes-going-requires : goal.ended_schemes-going-requires
ended_schemes-going-requires c =
    omega (arith, (sound_means _ _ _ c.requires).figures.schemes, length-take c.args.ledger.now.count c.args.ledger.now.schemes)

pub slice_bounds-keep_owing-end : goal.slice_bounds-keep_owing-end
slice_bounds-keep_owing-end c =
    sym (length-take-le c.args.ledger.now.entries c.args.table.now (sound_means _ _ _ c.requires).figures.in_table)

pub keep_owing-requires : goal.keep_owing-requires
keep_owing-requires c = (
  omega (arith, (sound_means _ _ _ c.requires).figures.schemes, length-take c.args.ledger.now.count c.args.ledger.now.schemes),
  own_places _ (take c.args.ledger.now.count c.args.ledger.now.schemes) (sound_means _ _ _ c.requires).numbers.schemes_in_order,
)

pub returns-clause-gone : goal.returns-clause-gone
returns-clause-gone c =
    let schemes = take c.args.ledger.now.count c.args.ledger.now.schemes in
    let entries = take c.args.ledger.now.entries c.args.table.now in
    going_is c.args.ledger.now c.args.table.now c.args.month c.keep_owing.new.going
    (omega (arith, (sound_means _ _ _ c.requires).figures.schemes, length-take c.args.ledger.now.count c.args.ledger.now.schemes, c.keep_owing.array_long))
    (λ k below.
    c.keep_owing.ensures k below
    ∙ ap (λ t. t && settled (get_or schemes k no_scheme).number entries) (c.ended_schemes-going.ensures k below))
