pub mod ClearingIsCall
