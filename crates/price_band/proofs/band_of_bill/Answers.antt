-- The files of a priced request stand, so that the values read are the definition's; both ends come from the bill's costs.
use Rattle.std.proofs.Common.{sym}
use Rattle.price_band.proofs.PricedFiles.{book_part_walks, request_part_walks, ends_within, band_of_values}
use Rattle.price_band.proofs.Theorems.PriceBand.{limits_kept}
use Rattle.price_band.proofs.band_of_bill.Goals as goal

pub new-requires : goal.new-requires
new-requires c = rw c.fields_part.ensures.0 (book_part_walks _ _ _ c.requires.0)

pub request_values-asked-requires : goal.request_values-asked-requires
request_values-asked-requires c = rw c.fields_part-2.ensures.0 (request_part_walks _ _ _ c.requires.0)

pub at_end-low-requires : goal.at_end-low-requires
at_end-low-requires c =
    let within = ends_within _ _ _ c.requires.0 (λ k. (c.type_inv.book k).fits) (λ k. (c.type_inv.request k).fits) in
    let kept = limits_kept _ c.requires.1 in
    rw (c.book_values-values.ensures, c.new.ensures, c.request_values-asked.ensures, c.fields_part.ensures.0, c.fields_part-2.ensures.0, c.end_costs-costs.ensures)
    (within.0, within.1, within.2, kept.distribution_low, kept.transmission_low)

pub at_end-high-requires : goal.at_end-high-requires
at_end-high-requires c =
    let within = ends_within _ _ _ c.requires.0 (λ k. (c.type_inv.book k).fits) (λ k. (c.type_inv.request k).fits) in
    let kept = limits_kept _ c.requires.1 in
    rw (c.book_values-values.ensures, c.new.ensures, c.request_values-asked.ensures, c.fields_part.ensures.0, c.fields_part-2.ensures.0, c.end_costs-costs.ensures)
    (within.0, within.1, within.2, kept.distribution_high, kept.transmission_high)

pub returns : goal.returns
returns c =
    rw (c.band_between.ensures, c.at_end-low.ensures, c.at_end-high.ensures, c.book_values-values.ensures, c.new.ensures, c.request_values-asked.ensures, c.fields_part.ensures.0, c.fields_part-2.ensures.0, c.end_costs-costs.ensures)
    (sym (band_of_values _ _ _ c.requires.0 c.args.bands))
