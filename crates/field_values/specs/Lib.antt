pub mod Limits
pub mod SumLimits
pub mod FactorLimits
pub mod Judged
pub mod Narrow
pub mod Factors
pub mod Reading
pub mod Cases
