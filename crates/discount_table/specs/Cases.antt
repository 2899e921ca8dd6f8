pub mod DiscountTable
