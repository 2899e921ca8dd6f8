pub mod Theorems
pub mod ZonePlaces
