pub mod Collecting
pub mod Walking
