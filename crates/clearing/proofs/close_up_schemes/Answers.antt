-- One scheme more, which goes (scheme_goes_on) or stays (scheme_stays_on); after the last, zeros stand in every place beneath (zeroed_all).
use Rattle.std.proofs.Common.{rules, sym, ap, ◌∙◌, ◌<◌, ◌≡◌, arith, length, take, replicate}
use Rattle.ledger.specs.Lists.{at_start}
use Rattle.ledger.specs.Records.{no_scheme}
use Rattle.clearing.specs.Clearing.{gone_numbers, schemes_left}
use Rattle.clearing.proofs.ClosingUp.{same_scheme, scheme_goes_on, scheme_stays_on, zeroed_all}
use Rattle.clearing.proofs.close_up_schemes.Goals as goal
use Rattle.clearing.proofs.close_up_schemes.Goals.{then-going-k, else-going-k}

pub overflow_add-gone : goal.overflow_add-gone
overflow_add-gone c =
    let below = c.loop-k-test.true in
    rw (same_scheme _ _ _ _ c.loop-k.invariant (omega (arith, below, c.requires.few, c.told-schemes)))
    (omega (arith, c.loop-k.invariant.within, c.requires.fees c.loop-k.k below, c.requires.few, below))

default_is : (c : goal.Joined-going-k) → c.default.result ≡ no_scheme
default_is c = search rules

pub loop-k-preserved : goal.loop-k-preserved
loop-k-preserved c =
    let below = c.loop-k-test.true in
    let fits : c.loop-k.k < length c.args.schemes.now = omega (arith, below, c.requires.few, c.told-schemes) in
    let place = c.requires.places c.loop-k.k below in
    elim c.if-going-k.branch [
      | then-going-k w ↦
          rw (w.schemes-is, w.left-is, w.gone-is, default_is c)
          (scheme_goes_on _ _ _ _ c.loop-k.invariant fits (sym place ∙ w.if-going-k.true) (c.requires.fees c.loop-k.k below))
      | else-going-k w ↦
          rw (w.schemes-is, w.left-is, w.gone-is, default_is c)
          (scheme_stays_on _ _ _ _ c.loop-k.invariant fits (sym place ∙ w.if-going-k.false))
    ]

pub returns-clause-schemes : goal.returns-clause-schemes
returns-clause-schemes c =
    let last : c.loop-k.k ≡ c.args.count = omega (arith, c.loop-k-test.false, c.loop-k.auto.k-end) in
    let zeros = zeroed_all c.args.count c.args.schemes.now c.requires.rest ∙ ap (λ n. replicate n no_scheme) c.told-schemes in
    rw last at c.loop-k.invariant.stored
    ∙ ap (at_start (schemes_left (gone_numbers c.args.going.now (take c.args.count c.args.schemes.now)) (take c.args.count c.args.schemes.now))) zeros
