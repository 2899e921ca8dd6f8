pub mod Discount
