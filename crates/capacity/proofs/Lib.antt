pub mod Theorems
pub mod EachTier
