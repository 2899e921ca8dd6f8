pub mod Discount
pub mod DiscountBounds
