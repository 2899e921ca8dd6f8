pub mod Deciding
pub mod Theorems
