pub mod Book
pub mod BookSizes
pub mod BookLimits
