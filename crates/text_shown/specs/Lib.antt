pub mod Values
pub mod Lines
pub mod Template
pub mod Show
pub mod Described
pub mod Laws
pub mod Cases
