-- The reconciliation's figures as one list of values: the amounts in document 01's order, then the three percentages, then their quotients and
-- remainders.
use Rattle.std.specs.Prelude.{List, [], ◌∷◌, ℤ, pos, None, Some}
use Rattle.reconciliation.specs.Percent.{Percent}
use Rattle.reconciliation.specs.declared.Reconciliation.{Reconciliation}

-- "none where the divisor is 0": whether there is a percentage, and which
abbrev pub percent_is_there : Percent → ℤ
percent_is_there (Some p) = pos 1
percent_is_there None = pos 0

abbrev pub percent_figure : Percent → ℤ
percent_figure (Some p) = p.rounded
percent_figure None = pos 0

-- beside it "the whole percent rounded down and the exact remainder"; 0 and 0 where there is no percentage
abbrev pub percent_quotient : Percent → ℤ
percent_quotient (Some p) = p.quotient
percent_quotient None = pos 0

abbrev pub percent_remainder : Percent → ℤ
percent_remainder (Some p) = pos p.remainder
percent_remainder None = pos 0

-- ME, MC, CE, CC2, TW, HR, OL, IC, IR, CC, NIC, NC, X, cost entered, borne; CC/IC, CC/(CC+IR), NC/(CC+IR), and the
-- quotient and remainder of each
abbrev pub figure_values : Reconciliation → List ℤ
figure_values r =
    pos r.me ∷
    pos r.mc ∷
    pos r.ce ∷
    pos r.cc2 ∷
    pos r.tw ∷
    pos r.hr ∷
    pos r.ol ∷
    pos r.ic ∷
    pos r.ir ∷
    pos r.cc ∷
    r.nic ∷
    r.nc ∷
    pos r.x ∷
    pos r.entered ∷
    pos r.borne ∷
    percent_is_there r.reliance ∷
    percent_figure r.reliance ∷
    percent_is_there r.upfront ∷
    percent_figure r.upfront ∷
    percent_is_there r.nc_ratio ∷
    percent_figure r.nc_ratio ∷
    percent_quotient r.reliance ∷
    percent_remainder r.reliance ∷
    percent_quotient r.upfront ∷
    percent_remainder r.upfront ∷
    percent_quotient r.nc_ratio ∷
    percent_remainder r.nc_ratio ∷
    []
