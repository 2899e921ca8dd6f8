pub mod PriceRefusals
pub mod PriceEnding
pub mod Price
pub mod Bill
