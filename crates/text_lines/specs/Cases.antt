pub mod Columns
pub mod Lines
