pub mod MarkedFigures
pub mod Classes
pub mod PriceEnding
pub mod Price
pub mod ZoneForms
pub mod FullBook
