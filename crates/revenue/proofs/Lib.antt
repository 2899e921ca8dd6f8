pub mod Years
pub mod Theorems
