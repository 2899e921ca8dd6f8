pub mod BillLimits
pub mod Price
pub mod ZonePlaces
pub mod PriceEnding
pub mod PriceRefusals
pub mod Cases
