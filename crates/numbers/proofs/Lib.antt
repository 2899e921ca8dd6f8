pub mod StdBytes
pub mod Checking
pub mod Theorems
pub mod Weights
