-- The amounts of a band fit 64 bits with a sign.
use Rattle.std.specs.Prelude.{◌<◌}
use Rattle.reconciliation.specs.SignedLimit.{signed_below}
use Rattle.price_band.specs.declared.Band.{Band}

pub record BandFits (band : Band) : Type 0 where
  pub lowest_ir : band.lowest_ir < signed_below
  pub highest_ir : band.highest_ir < signed_below
  pub lowest_cc : band.lowest_cc < signed_below
  pub highest_cc : band.highest_cc < signed_below
