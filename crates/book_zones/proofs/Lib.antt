pub mod Standing
pub mod Filling
pub mod Scanning
pub mod Theorems
