-- Document 01, 'Charge and reconciliation', from IC to the cost borne.
use Rattle.std.specs.Prelude.{ℕ, ◌+◌, ◌*◌, ◌-◌, ◌/◌, min, ℤ, pos, ◌-ℤ◌}
use Rattle.reconciliation.specs.Percent.{percent_of}
use Rattle.reconciliation.specs.declared.Costs.{Costs}
use Rattle.reconciliation.specs.declared.Reconciliation.{Reconciliation}

-- "IC = ME + MC + CE + CC2 + TW + HR + OL."
abbrev pub ic_of : Costs → ℕ
ic_of costs = costs.me + costs.mc + costs.ce + costs.cc2 + costs.tw + costs.hr + costs.ol

-- "With capacity charged, a = 1, otherwise 0. M = ME + a × MC."
abbrev pub m_of : Costs → ℕ → ℕ
m_of costs a = costs.me + a * costs.mc

-- "Credit = ⌊IR × share / 10,000⌋"
abbrev pub credit_of : ℕ → ℕ → ℕ
credit_of ir share = ir * share / 10000

-- "used = the smaller of M and credit."
abbrev pub used_of : Costs → ℕ → ℕ → ℕ → ℕ
used_of costs ir a share = min (m_of costs a) (credit_of ir share)

-- "CC = M − used + CE + a × CC2 + TW + HR + OL."
abbrev pub cc_of : Costs → ℕ → ℕ → ℕ → ℕ
cc_of costs ir a share = m_of costs a - used_of costs ir a share + costs.ce + a * costs.cc2 + costs.tw + costs.hr + costs.ol

-- the capacity that isn't charged: (1 − a) × (MC + CC2)
abbrev pub not_charged_of : Costs → ℕ → ℕ
not_charged_of costs a = (1 - a) * (costs.mc + costs.cc2)

-- "NIC = IC − IR."
abbrev pub nic_of : Costs → ℕ → ℤ
nic_of costs ir = pos (ic_of costs) -ℤ pos ir

-- "NC = IR − used − (1 − a) × (MC + CC2)."
abbrev pub nc_of : Costs → ℕ → ℕ → ℕ → ℤ
nc_of costs ir a share = pos ir -ℤ pos (used_of costs ir a share) -ℤ pos (not_charged_of costs a)

-- "X = ME − (smaller of ME and credit) + CE"
abbrev pub x_of : Costs → ℕ → ℕ → ℕ
x_of costs ir share = costs.me - min costs.me (credit_of ir share) + costs.ce

-- "Cost entered = IC + DE; borne by the company = used + (1 − a) × (MC + CC2) + DE."
abbrev pub entered_of : Costs → ℕ
entered_of costs = ic_of costs + costs.de

abbrev pub borne_of : Costs → ℕ → ℕ → ℕ → ℕ
borne_of costs ir a share = used_of costs ir a share + not_charged_of costs a + costs.de

-- "Percentages: CC/IC, CC/(CC+IR), NC/(CC+IR)"
abbrev pub reconciliation_of : Costs → ℕ → ℕ → ℕ → Reconciliation
reconciliation_of costs ir a share =
    record {
      me = costs.me;
      mc = costs.mc;
      ce = costs.ce;
      cc2 = costs.cc2;
      tw = costs.tw;
      hr = costs.hr;
      ol = costs.ol;
      ic = ic_of costs;
      ir = ir;
      cc = cc_of costs ir a share;
      nic = nic_of costs ir;
      nc = nc_of costs ir a share;
      x = x_of costs ir share;
      entered = entered_of costs;
      borne = borne_of costs ir a share;
      reliance = percent_of (pos (cc_of costs ir a share)) (ic_of costs);
      upfront = percent_of (pos (cc_of costs ir a share)) (cc_of costs ir a share + ir);
      nc_ratio = percent_of (nc_of costs ir a share) (cc_of costs ir a share + ir);
    }
