pub mod Booking
pub mod Carrying
pub mod Theorems
