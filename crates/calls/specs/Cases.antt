pub mod Verdict
pub mod Calls
pub mod CallEnding
pub mod Clearing
