pub mod BigEndian
pub mod Written
pub mod Check
pub mod CheckWords
pub mod Cases
