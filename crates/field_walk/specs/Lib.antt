pub mod Walk
pub mod WalkSteps
pub mod Walked
pub mod FieldsWalk
pub mod Cases
