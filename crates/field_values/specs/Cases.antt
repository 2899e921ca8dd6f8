pub mod Factors
pub mod Judged
