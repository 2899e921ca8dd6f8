-- Two reconciliations with the same figures are the same.
use Rattle.std.specs.Prelude.{ℕ, ◌≡◌, refl, pos, nat_abs, get_or, None, Some}
use Rattle.std.proofs.Common.{ap}
use Rattle.tagged.proofs.Theorems.Impossible.{impossible}
use Rattle.reconciliation.specs.Figures.{figure_values, percent_is_there, percent_figure, percent_quotient, percent_remainder}
use Rattle.reconciliation.specs.declared.Reconciliation.{Reconciliation}
use Rattle.reconciliation.specs.Percent.{Percent}

percent_told : (p q : Percent) → percent_is_there p ≡ percent_is_there q → percent_figure p ≡ percent_figure q →
    percent_quotient p ≡ percent_quotient q → percent_remainder p ≡ percent_remainder q → p ≡ q
percent_told (Some m) (Some n) told figure quotient remainder =
    λ i. Some (record { rounded = figure i; quotient = quotient i; remainder = nat_abs (remainder i) })
percent_told (Some m) None told figure quotient remainder = impossible cc
percent_told None (Some n) told figure quotient remainder = impossible cc
percent_told None None told figure quotient remainder = refl

pub reconciliation_by_figures : (r s : Reconciliation) → figure_values r ≡ figure_values s → r ≡ s
reconciliation_by_figures r s e =
    let figure : (place : ℕ) → get_or (figure_values r) place (pos 0) ≡ get_or (figure_values s) place (pos 0) =
    λ place. ap (λ figures. get_or figures place (pos 0)) e in
    λ i.
    record {
      me = nat_abs (figure 0 i);
      mc = nat_abs (figure 1 i);
      ce = nat_abs (figure 2 i);
      cc2 = nat_abs (figure 3 i);
      tw = nat_abs (figure 4 i);
      hr = nat_abs (figure 5 i);
      ol = nat_abs (figure 6 i);
      ic = nat_abs (figure 7 i);
      ir = nat_abs (figure 8 i);
      cc = nat_abs (figure 9 i);
      nic = figure 10 i;
      nc = figure 11 i;
      x = nat_abs (figure 12 i);
      entered = nat_abs (figure 13 i);
      borne = nat_abs (figure 14 i);
      reliance = percent_told r.reliance s.reliance (figure 15) (figure 16) (figure 21) (figure 22) i;
      upfront = percent_told r.upfront s.upfront (figure 17) (figure 18) (figure 23) (figure 24) i;
      nc_ratio = percent_told r.nc_ratio s.nc_ratio (figure 19) (figure 20) (figure 25) (figure 26) i;
    }
