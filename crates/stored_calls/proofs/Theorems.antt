pub mod FormFits
pub mod StoredCalls
pub mod StoredCallEnding
pub mod StoredPromises
pub mod StoredCallsRefusals
pub mod StoredCallsReadBack
