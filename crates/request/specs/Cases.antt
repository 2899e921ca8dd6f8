pub mod Request
pub mod RequestRows
