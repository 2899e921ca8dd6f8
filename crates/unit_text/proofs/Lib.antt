pub mod Scanning
pub mod Values
pub mod Showing
pub mod Trimming
pub mod Theorems
