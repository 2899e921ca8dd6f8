pub mod EntryCalls
pub mod Cases
