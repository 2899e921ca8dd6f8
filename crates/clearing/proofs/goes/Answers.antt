-- What is said of the number's place is whether it is one of those that go (said_by_number).
use Rattle.std.proofs.Common.{sym, ap, ◌∙◌, arith, take, length-take}
use Rattle.clearing.proofs.Going.{said_at, said_by_number, placed_below}
use Rattle.clearing.proofs.goes.Goals as goal

pub bounds-going-at : goal.bounds-going-at
bounds-going-at c =
    omega (
      arith,
      placed_below _ _ (take c.args.ledger.now.count c.args.ledger.now.schemes) (sym c.scheme_at.ensures ∙ c.in-Some.is),
      length-take c.args.ledger.now.count c.args.ledger.now.schemes,
      c.requires.0,
    )

pub returns-in-Some : goal.returns-in-Some
returns-in-Some c =
    ap (said_at c.args.going.now) (sym (rw c.from.ensures at (sym c.scheme_at.ensures ∙ c.in-Some.is)))
    ∙ said_by_number _ _ c.args.number c.args.going.now (take c.args.ledger.now.count c.args.ledger.now.schemes) c.requires.1
    (omega (arith, length-take c.args.ledger.now.count c.args.ledger.now.schemes, c.requires.0, c.told-going))

pub returns-in-None : goal.returns-in-None
returns-in-None c =
    ap (said_at c.args.going.now) (sym (rw c.from.ensures at (sym c.scheme_at.ensures ∙ c.in-None.is)))
    ∙ said_by_number _ _ c.args.number c.args.going.now (take c.args.ledger.now.count c.args.ledger.now.schemes) c.requires.1
    (omega (arith, length-take c.args.ledger.now.count c.args.ledger.now.schemes, c.requires.0, c.told-going))
