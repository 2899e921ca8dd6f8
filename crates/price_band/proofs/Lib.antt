pub mod PricedFiles
pub mod Theorems
