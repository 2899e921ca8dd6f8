pub mod PriceBand
pub mod EndCosts
pub mod BandLimits
pub mod BandEnding
pub mod BandPromises
pub mod Cases
