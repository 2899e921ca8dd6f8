pub mod Columns
pub mod Table
pub mod Sound
pub mod Rising
pub mod Lookup
pub mod RefusalNumbers
pub mod SameEntries
