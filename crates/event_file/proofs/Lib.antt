pub mod Theorems
pub mod WalkEvents
