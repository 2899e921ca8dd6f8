pub mod Judged
pub mod Factors
pub mod Reading
