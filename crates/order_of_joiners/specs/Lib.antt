pub mod Distance
pub mod Orders
pub mod Laws
pub mod Cases
