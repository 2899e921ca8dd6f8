pub mod Template
pub mod Whole
pub mod Show
pub mod Described
