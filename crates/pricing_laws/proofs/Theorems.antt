pub mod Without
pub mod OlderBooks
pub mod OlderRequests
pub mod OlderPricing
pub mod ZoneForms
pub mod Counterparts
