pub mod Numbers
pub mod Small
pub mod Longest
pub mod Rows
pub mod Theorems
