pub mod StoredDemandThree
pub mod EveryListOfStoredCalls
pub mod Cases
pub mod Laws
