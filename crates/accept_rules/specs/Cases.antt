pub mod Accept
pub mod BuildingOn
pub mod MarkedFigures
pub mod Clearing
