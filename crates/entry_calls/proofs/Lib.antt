pub mod Kept
pub mod Theorems
