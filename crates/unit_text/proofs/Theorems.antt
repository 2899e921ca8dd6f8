pub mod ReadsBack
pub mod Exact
