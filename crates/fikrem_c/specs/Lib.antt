pub mod BandResult
pub mod BandResults
pub mod Cases
pub mod FileResult
pub mod FileResults
pub mod Laws
pub mod Version
