pub mod Going
pub mod ClosingUp
pub mod Theorems
