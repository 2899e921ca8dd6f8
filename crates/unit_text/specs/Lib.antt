pub mod Measure
pub mod Shown
pub mod Figure
pub mod Month
pub mod Read
pub mod ExactFigures
pub mod Laws
pub mod Cases
