-- The figures of a reconciliation whose amounts all differ, in their order.
use Rattle.std.specs.Prelude.{◌≡◌, refl, List, [], ◌∷◌, drop, ℤ, pos, negsuc, None}
use Rattle.reconciliation.specs.Figures.{figure_values}
use Rattle.reconciliation.specs.Percent.{Percent}
use Rattle.reconciliation.specs.Cases.Reconciliation.{whole}
use Rattle.reconciliation.specs.declared.Reconciliation.{Reconciliation}

-- every figure another one, NC negative, and no percentage of IC
abbrev pub sample : Reconciliation
sample =
    record {
      me = 101;
      mc = 102;
      ce = 103;
      cc2 = 104;
      tw = 105;
      hr = 106;
      ol = 107;
      ic = 108;
      ir = 109;
      cc = 110;
      nic = pos 111;
      nc = negsuc 111;
      x = 113;
      entered = 114;
      borne = 115;
      reliance = None;
      upfront = whole (pos 57) (pos 56) 117;
      nc_ratio = whole (negsuc 6) (negsuc 7) 119;
    }

abbrev pub sample_figures : List ℤ
sample_figures =
    pos 101 ∷ pos 102 ∷ pos 103 ∷ pos 104 ∷ pos 105 ∷ pos 106 ∷ pos 107 ∷ pos 108 ∷ pos 109 ∷ pos 110 ∷ pos 111 ∷ negsuc 111 ∷ pos 113 ∷ pos 114 ∷ pos 115 ∷
    pos 0 ∷ pos 0 ∷ pos 1 ∷ pos 57 ∷ pos 1 ∷ negsuc 6 ∷ pos 0 ∷ pos 0 ∷ pos 56 ∷ pos 117 ∷ negsuc 7 ∷ pos 119 ∷ []

-- each percentage in turn is none, and the other two are there
abbrev with_percentages : Percent → Percent → Percent → Reconciliation
with_percentages reliance upfront nc_ratio =
    record {
      me = 0;
      mc = 0;
      ce = 0;
      cc2 = 0;
      tw = 0;
      hr = 0;
      ol = 0;
      ic = 0;
      ir = 0;
      cc = 0;
      nic = pos 0;
      nc = pos 0;
      x = 0;
      entered = 0;
      borne = 0;
      reliance = reliance;
      upfront = upfront;
      nc_ratio = nc_ratio;
    }

pub percentages_told :
    (drop 15 (figure_values (with_percentages (whole (pos 1) (pos 2) 3) None (whole (negsuc 4) (negsuc 5) 6)))
    ≡ pos 1 ∷ pos 1 ∷ pos 0 ∷ pos 0 ∷ pos 1 ∷ negsuc 4 ∷ pos 2 ∷ pos 3 ∷ pos 0 ∷ pos 0 ∷ negsuc 5 ∷ pos 6 ∷ [])
    × (drop 15 (figure_values (with_percentages (whole (pos 1) (pos 2) 3) (whole (negsuc 4) (negsuc 5) 6) None))
    ≡ pos 1 ∷ pos 1 ∷ pos 1 ∷ negsuc 4 ∷ pos 0 ∷ pos 0 ∷ pos 2 ∷ pos 3 ∷ negsuc 5 ∷ pos 6 ∷ pos 0 ∷ pos 0 ∷ [])
percentages_told = (refl, refl)

pub sample_told : figure_values sample ≡ sample_figures
sample_told = refl
