pub mod Table
pub mod Names
pub mod Notes
pub mod Cases
