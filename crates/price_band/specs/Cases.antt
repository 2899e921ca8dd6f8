pub mod PriceBand
pub mod BandEnding
