-- The laws of the ending are theorems beside it.
use Rattle.price_band.proofs.Theorems.BandEnding.{band_by_ending, promised_band}
use Rattle.pricing_laws.proofs.band_ends.Goals as goal

pub returns-clause-ending : goal.returns-clause-ending
returns-clause-ending c =
    λ book request other_book other_request bands other_bands. band_by_ending book request other_book other_request bands other_bands

pub returns-clause-promised : goal.returns-clause-promised
returns-clause-promised c = promised_band
