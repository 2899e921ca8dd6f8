pub mod Interface
pub mod Laws
pub mod RefusalPlaces
pub mod Unit
pub mod ResultParts
pub mod UnitPlaces
pub mod UnitResults
pub mod Cases
