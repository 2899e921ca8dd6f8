-- The reconciliation at one end of the bands, from a bill's costs. The distributor's enhancement is in none of the band's figures.
use Rattle.std.specs.Prelude.{ℕ}
use Rattle.rate_book.specs.declared.book.Book.{Book}
use Rattle.request.specs.declared.values.Request.{Request}
use Rattle.reconciliation.specs.Reconciliation.{reconciliation_of}
use Rattle.reconciliation.specs.declared.Costs.{Costs}
use Rattle.reconciliation.specs.declared.Reconciliation.{Reconciliation}
use Rattle.charge.specs.Price.{incremental_revenue_of}

abbrev pub end_costs : Reconciliation → Costs
end_costs r = record { me = r.me; mc = r.mc; ce = r.ce; cc2 = r.cc2; de = 0; tw = r.tw; hr = r.hr; ol = r.ol }

abbrev pub end_reconciliation : Book → Request → Costs → ℕ → ℕ → Reconciliation
end_reconciliation book request costs distribution transmission =
    reconciliation_of costs (incremental_revenue_of book request distribution transmission) book.charged book.share
