pub mod RevenueLimits
pub mod Revenue
pub mod StreamLimits
pub mod Cases
