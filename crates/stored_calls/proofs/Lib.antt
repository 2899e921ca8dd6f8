pub mod Ends
pub mod Theorems
