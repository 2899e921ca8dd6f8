-- Each figure is the definition's by the contract of its step; subtracting two amounts is subtracting their sum.
use Rattle.std.specs.Prelude.{ℕ, Bool, true, false, ◌≡◌, ◌-◌, cond, not, refl}
use mir.ValLaws.{to_z-of_z}
use mir.Syntax.{w64}
use Rattle.reconciliation.specs.Reconciliation.{used_of, not_charged_of}
use Rattle.reconciliation.proofs.Theorems.Reconciliation.{subtract_twice}
use Rattle.reconciliation.proofs.reconcile.Goals as goal

not_charged : (charged : Bool) → cond (not charged) 1 0 ≡ 1 - cond charged 1 0
not_charged true = refl
not_charged false = refl

pub returns : goal.returns
returns c =
    let costs = c.args.costs in
    let ir = c.args.ir in
    let a : ℕ = cond c.args.charged 1 0 in
    let cc_fits = to_z-of_z w64 c.signed.result (record { sfits = c.signed.type_inv }) in
    let cc_fits_again = to_z-of_z w64 c.signed-2.result (record { sfits = c.signed-2.type_inv }) in
    let nic_fits = to_z-of_z w64 c.minus.result (record { sfits = c.minus.type_inv }) in
    let nc_fits = to_z-of_z w64 c.minus-nc.result (record { sfits = c.minus-nc.type_inv }) in
    rw (
      subtract_twice ir (used_of costs ir a c.args.share) (not_charged_of costs a),
      c.percent_of.ensures,
      c.percent_of-2.ensures,
      c.percent_of-3.ensures,
      cc_fits,
      cc_fits_again,
      nic_fits,
      nc_fits,
      c.signed.ensures,
      c.signed-2.ensures,
      c.minus.ensures,
      c.minus-nc.ensures,
      c.min-used.ensures,
      c.min.ensures,
      c.times.ensures.0,
      c.times-2.ensures.0,
      c.times-not_charged.ensures.0,
      not_charged c.args.charged,
      c.credit_of-credit.ensures.0,
    )
