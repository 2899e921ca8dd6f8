pub mod BandResult
pub mod FileResult
pub mod PageResult
