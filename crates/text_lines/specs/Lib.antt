pub mod Columns
pub mod Lines
pub mod TextLines
pub mod Cases
