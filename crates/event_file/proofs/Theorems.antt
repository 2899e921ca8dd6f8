pub mod EventFile
pub mod WrittenEvents
