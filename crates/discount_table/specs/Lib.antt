pub mod DiscountTable
pub mod Cases
