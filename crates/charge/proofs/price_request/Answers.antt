-- A request that is read is within the limits that pricing its values requires.
use Rattle.std.proofs.Common.{sym, ◌∙◌}
use Rattle.request.specs.RequestLimits.{RequestWithin}
use Rattle.request.proofs.Theorems.RequestLimits.{request_within_limits}
use Rattle.charge.proofs.price_request.Goals as goal

pub price_values-requires : goal.price_values-requires
price_values-requires c =
    let within : RequestWithin c.in_ok-values.values =
    request_within_limits 2 c.args.request.now (λ k. (c.type_inv.request k).fits) (sym c.read_request.ensures ∙ c.in_ok-values.was) in
    (c.requires.0, c.requires.1, within, within.distribution_revenue, within.transmission_revenue)
