pub mod Distance
pub mod OrdersDiffer
pub mod Orders
