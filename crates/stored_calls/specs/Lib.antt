pub mod StoredCalls
pub mod StoredCallEnding
pub mod StoredPromises
pub mod StoredRefusals
pub mod StoredRefuses
pub mod StoredCallsRefusals
pub mod Cases
