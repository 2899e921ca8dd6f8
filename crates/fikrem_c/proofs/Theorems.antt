pub mod BandResults
pub mod FileResult
