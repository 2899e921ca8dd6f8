-- Percentages and the slip's reconciliation, as document 01 marks them.
use Rattle.std.specs.Prelude.{◌≡◌, refl, ℤ, pos, negsuc, None}
use Rattle.reconciliation.specs.Percent.{percent_of}
use Rattle.reconciliation.specs.SlipReconciliation.{slip_reconciliation}
use Rattle.reconciliation.specs.Cases.Reconciliation.{whole}

-- M9: "−1 of 200 is −1 percent", and "nearest whole, halves away from zero; none where the divisor is 0"; beside it quotient
-- and remainder
pub percent_marked_figures :
    (percent_of (negsuc 0) 200 ≡ whole (negsuc 0) (negsuc 0) 100)
    × (percent_of (pos 1) 200 ≡ whole (pos 1) (pos 0) 100)
    × (percent_of (negsuc 0) 201 ≡ whole (pos 0) (negsuc 0) 101)
    × (percent_of (pos 1) 201 ≡ whole (pos 0) (pos 0) 100)
    × ((n : ℤ) → percent_of n 0 ≡ None)
percent_marked_figures = (refl, refl, refl, refl, λ n. refl)

-- M4: the slip's CC and NC, with its other figures
pub slip_figures :
    (slip_reconciliation.cc ≡ 1147630)
    × (slip_reconciliation.ic ≡ 1706500)
    × (slip_reconciliation.nic ≡ pos 846700)
    × (slip_reconciliation.nc ≡ pos 300930)
    × (slip_reconciliation.reliance ≡ whole (pos 67) (pos 67) 427500)
    × (slip_reconciliation.upfront ≡ whole (pos 57) (pos 57) 339490)
    × (slip_reconciliation.nc_ratio ≡ whole (pos 15) (pos 14) 1988980)
slip_figures = (refl, refl, refl, refl, refl, refl, refl)
