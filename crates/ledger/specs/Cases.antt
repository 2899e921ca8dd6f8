pub mod Lists
pub mod Books
pub mod Columns
pub mod Records
pub mod Updates
pub mod Lookup
pub mod Sound
pub mod RefusalNumbers
