pub mod Revenue
