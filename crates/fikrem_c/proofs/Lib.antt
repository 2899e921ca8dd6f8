pub mod Theorems
pub mod Accepting
pub mod Moving
