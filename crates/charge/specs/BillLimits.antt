-- What a ledger needs of a bill: its figures, its terms and its applicant are within document 01's limits.
use Rattle.std.specs.Prelude.{◌^◌, ◌<◌, ◌≤◌}
use Rattle.field_values.specs.Limits.{highest_threshold, highest_minimum, lowest_term, lowest_capacity, highest_capacity, highest_mark}
use Rattle.reconciliation.specs.FigureLimits.{FiguresWithin}
use Rattle.charge.specs.declared.Bill.{Bill}

pub record BillWithin (bill : Bill) : Type 0 where
  pub figures : FiguresWithin bill.reconciliation
  pub threshold : bill.terms.threshold ≤ highest_threshold
  pub fee : bill.terms.fee ≤ bill.terms.minimum
  pub minimum : bill.terms.minimum ≤ highest_minimum
  pub term : lowest_term ≤ bill.terms.term
  pub term_below : bill.terms.term < 2 ^ 16
  pub person : bill.applicant.person < 2 ^ 32
  pub month : bill.applicant.month < 2 ^ 16
  pub some_capacity : lowest_capacity ≤ bill.applicant.capacity
  pub capacity : bill.applicant.capacity ≤ highest_capacity
  pub scheme : bill.applicant.scheme < 2 ^ 16
  pub mark : bill.applicant.mark ≤ highest_mark
