pub mod Request
pub mod RequestSizes
pub mod WithRevenues
pub mod RequestLimits
