pub mod EventRows
pub mod EventFile
pub mod NextEvent
pub mod Written
pub mod Laws
pub mod Cases
