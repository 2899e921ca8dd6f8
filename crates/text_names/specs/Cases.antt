pub mod Names
pub mod Notes
