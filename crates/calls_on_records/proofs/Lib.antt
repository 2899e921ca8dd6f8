pub mod ByRoom
pub mod Theorems
