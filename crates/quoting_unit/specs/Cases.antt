pub mod Interface
pub mod Unit
pub mod UnitCalls
