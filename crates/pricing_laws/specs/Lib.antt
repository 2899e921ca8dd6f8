pub mod EarlierRows
pub mod EarlierPricing
pub mod SameValues
pub mod Laws
pub mod Cases
