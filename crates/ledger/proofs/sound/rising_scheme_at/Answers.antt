-- Where the halves meet stands the scheme with the number, or none has it.
use Rattle.std.proofs.Common.{ℕ, ◌≡◌, get_or, sym, subst, arith}
use Rattle.ledger.specs.Records.{no_scheme}
use Rattle.ledger.proofs.Theorems.Lookup.{found_first, not_found}
use Rattle.ledger.proofs.Rest.{by_order}
use Rattle.ledger.proofs.sound.rising_scheme_at.Goals as goal
use Rattle.ledger.proofs.sound.rising_scheme_at.Goals.{else-low-schemes-via-then-low-schemes+else-schemes-low, else-low-schemes-via-else-low-schemes}

pub returns-then-schemes-low : goal.returns-then-schemes-low
returns-then-schemes-low c =
    sym
    (found_first (λ scheme. scheme.number) c.args.schemes.now no_scheme c.args.number c.loop-low.low c.if-low-schemes.true c.if-schemes-low.true
    (λ j less same. omega (arith, c.loop-low.invariant.below j less)))

pub returns-else-low-schemes : goal.returns-else-low-schemes
returns-else-low-schemes c =
    sym
    (not_found (λ scheme. scheme.number) c.args.schemes.now no_scheme c.args.number
    (λ k below own.
    by_order k c.loop-low.low (λ less. omega (arith, own, c.loop-low.invariant.below k less))
    (λ same.
    elim c.else-low-schemes.branch [
      | else-low-schemes-via-then-low-schemes+else-schemes-low w ↦ w.if-schemes-low.false (subst (λ (i : ℕ). (get_or c.args.schemes.now i no_scheme).number ≡ c.args.number) same own)
      | else-low-schemes-via-else-low-schemes w ↦ omega (arith, w.if-low-schemes.false, below, same)
    ])
    (λ more.
    omega (
      arith,
      own,
      c.requires c.loop-low.low k more below,
      c.loop-low.invariant.above c.loop-low.low c.loop-low-test.false (omega (arith, more, below)),
    ))))
