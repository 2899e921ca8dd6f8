pub mod StoredCallEnding
pub mod StoredCallEnd
pub mod StoredCalls
