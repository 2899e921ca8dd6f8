pub mod PriceBand
pub mod Band
pub mod BandEnding
