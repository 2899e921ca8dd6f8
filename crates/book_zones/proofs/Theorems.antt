pub mod ZoneFields
pub mod Zones
pub mod ZoneLimits
