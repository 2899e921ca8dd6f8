pub mod Rest
pub mod Tallying
pub mod Theorems
