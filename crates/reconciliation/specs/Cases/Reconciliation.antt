-- Reconciliations with every figure written out, at amounts that all differ and none of which is 0 but OL.
use Rattle.std.specs.Prelude.{ℕ, ◌≡◌, refl, ℤ, pos, negsuc, Some}
use Rattle.reconciliation.specs.Reconciliation.{reconciliation_of}
use Rattle.reconciliation.specs.declared.Costs.{Costs}
use Rattle.reconciliation.specs.declared.Reconciliation.{Reconciliation}
use Rattle.reconciliation.specs.Percent.{Percent}

-- ME, MC, CE, CC2, TW, HR, OL; IC, IR, CC; NIC, NC; X, cost entered, borne; the percentages
abbrev pub figures : (me mc ce cc2 tw hr ol ic ir cc : ℕ) → (nic nc : ℤ) → (x entered borne : ℕ) → (reliance upfront ratio : Percent) → Reconciliation
figures me mc ce cc2 tw hr ol ic ir cc nic nc x entered borne reliance upfront ratio =
    record {
      me = me;
      mc = mc;
      ce = ce;
      cc2 = cc2;
      tw = tw;
      hr = hr;
      ol = ol;
      ic = ic;
      ir = ir;
      cc = cc;
      nic = nic;
      nc = nc;
      x = x;
      entered = entered;
      borne = borne;
      reliance = reliance;
      upfront = upfront;
      nc_ratio = ratio;
    }

-- a percentage: rounded, and its quotient and remainder
abbrev pub whole : ℤ → ℤ → ℕ → Percent
whole rounded quotient remainder = Some (record { rounded = rounded; quotient = quotient; remainder = remainder })

-- with these for ME and OL
abbrev costs_with : ℕ → ℕ → Costs
costs_with me ol = record { me = me; mc = 1086822; ce = 417300; cc2 = 432286; de = 290100; tw = 83700; hr = 61900; ol = ol }

-- at a share of 6,300, the credit 647,196 is below M
abbrev pub capacity_charged : Reconciliation
capacity_charged =
    figures 1598500 1086822 417300 432286 83700 61900 154400 3834908 1027296 3187712 (pos 2807612) (pos 380100) 1368604 4125008 937296
    (whole (pos 83) (pos 83) 473836) (whole (pos 76) (pos 75) 2645600) (whole (pos 9) (pos 9) 74928)

-- NC is −1,139,008
abbrev pub capacity_not_charged : Reconciliation
capacity_not_charged =
    figures 1598500 1086822 417300 432286 83700 61900 154400 3834908 1027296 1668604 (pos 2807612) (negsuc 1139007) 1368604 4125008 2456404
    (whole (pos 44) (pos 43) 1959356) (whole (pos 62) (pos 61) 2410500) (whole (negsuc 41) (negsuc 42) 2022900)

-- OL 0, as in every class but special pricing
abbrev pub without_loading : Reconciliation
without_loading =
    figures 1598500 1086822 417300 432286 83700 61900 0 3680508 942391 3086802 (pos 2738117) (pos 348685) 1422094 3970608 883806
    (whole (pos 84) (pos 83) 3198036) (whole (pos 77) (pos 76) 2461532) (whole (pos 9) (pos 8) 2634956)

-- at a share of 8,700 the credit 1,224,822 is M, and one cent above it; both are above ME, so that X is CE
abbrev pub credit_is_m : Reconciliation
credit_is_m =
    figures 138000 1086822 417300 432286 83700 61900 0 2220008 1407842 995186 (pos 812166) (pos 183020) 417300 2510108 1514922
    (whole (pos 45) (pos 44) 1838248) (whole (pos 41) (pos 41) 994452) (whole (pos 8) (pos 7) 1480804)

abbrev pub credit_above_m : Reconciliation
credit_above_m =
    figures 137999 1086822 417300 432286 83700 61900 0 2220007 1407842 995186 (pos 812165) (pos 183021) 417300 2510107 1514921
    (whole (pos 45) (pos 44) 1838292) (whole (pos 41) (pos 41) 994452) (whole (pos 8) (pos 7) 1480904)

-- the highest costs and the highest revenue: at a share of 3,300, of 100, and with capacity not charged
abbrev highest_costs : Costs
highest_costs =
    record { me = 1000000000; mc = 500000000000; ce = 1000000000; cc2 = 499999999999; de = 1000000000; tw = 1000000000; hr = 1000000000; ol = 1000000000 }

abbrev highest_figures : ℕ → ℤ → ℕ → (reliance upfront ratio : Percent) → Reconciliation
highest_figures cc nc borne reliance upfront ratio =
    figures 1000000000 500000000000 1000000000 499999999999 1000000000 1000000000 1000000000 1004999999999 3968000000000 cc
    (negsuc 2963000000000) nc 1000000000 1005999999999 borne reliance upfront ratio

pub highest_cases :
    (reconciliation_of highest_costs 3968000000000 1 3300
    ≡ highest_figures 503999999999 (pos 3467000000000) 502000000000
    (whole (pos 50) (pos 50) 149999999950) (whole (pos 11) (pos 11) 1207999999911) (whole (pos 78) (pos 77) 2356000000077))
    × (reconciliation_of highest_costs 3968000000000 1 100
    ≡ highest_figures 965319999999 (pos 3928320000000) 40680000000
    (whole (pos 96) (pos 96) 51999999996) (whole (pos 20) (pos 19) 2798919999919) (whole (pos 80) (pos 79) 3099720000079))
    × (reconciliation_of highest_costs 3968000000000 0 3300
    ≡ highest_figures 4000000000 (pos 2967000000001) 1001999999999
    (whole (pos 0) (pos 0) 400000000000) (whole (pos 0) (pos 0) 400000000000) (whole (pos 75) (pos 74) 2772000000100))
highest_cases = (refl, refl, refl)

pub reconciliation_cases :
    (reconciliation_of (costs_with 1598500 154400) 1027296 1 6300 ≡ capacity_charged)
    × (reconciliation_of (costs_with 1598500 154400) 1027296 0 6300 ≡ capacity_not_charged)
    × (reconciliation_of (costs_with 1598500 0) 942391 1 6300 ≡ without_loading)
    × (reconciliation_of (costs_with 138000 0) 1407842 1 8700 ≡ credit_is_m)
    × (reconciliation_of (costs_with 137999 0) 1407842 1 8700 ≡ credit_above_m)
reconciliation_cases = (refl, refl, refl, refl, refl)
