pub mod FairTwice
pub mod Shown
pub mod OrderWithinCents
pub mod Joined
pub mod TwoOrders
