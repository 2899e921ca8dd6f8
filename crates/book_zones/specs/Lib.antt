pub mod BookRows
pub mod Zones
pub mod ZoneScans
pub mod ZoneLimits
pub mod Cases
