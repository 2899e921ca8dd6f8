-- A theorem that says six things at once.
use Rattle.price_band.proofs.Theorems.Band.{band_reached}
use Rattle.pricing_laws.proofs.band_is_exact.Goals as goal

pub returns-clause-reached : goal.returns-clause-reached
returns-clause-reached c = band_reached
