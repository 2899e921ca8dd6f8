pub mod DiscountLimits
pub mod DiscountYears
pub mod Discount
pub mod Cases
