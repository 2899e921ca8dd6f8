pub mod Lengths
pub mod Theorems
