pub mod BookRows
pub mod Zones
pub mod EightZones
