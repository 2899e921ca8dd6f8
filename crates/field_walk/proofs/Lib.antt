pub mod Rest
pub mod Rows
pub mod Walking
pub mod Theorems
