pub mod RefusalPlaces
pub mod AnswerPlaces
pub mod UnitBuffers
pub mod UnitFigures
pub mod ResultParts
pub mod UnitPlaces
pub mod UnitRefusals
pub mod UnitResults
