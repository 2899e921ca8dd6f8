-- The reconciliation of document 01's slip.
use Rattle.reconciliation.specs.Reconciliation.{reconciliation_of}
use Rattle.reconciliation.specs.declared.Reconciliation.{Reconciliation}

abbrev pub slip_reconciliation : Reconciliation
slip_reconciliation =
    reconciliation_of (record { me = 1598500; mc = 108000; ce = 0; cc2 = 0; de = 0; tw = 0; hr = 0; ol = 0 }) 859800 1 6500
