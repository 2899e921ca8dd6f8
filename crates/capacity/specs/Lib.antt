pub mod Capacity
pub mod CapacityLimits
pub mod TierLimits
pub mod Cases
