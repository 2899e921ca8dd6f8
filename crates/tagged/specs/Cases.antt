pub mod AlteredFields
pub mod File
pub mod Find
