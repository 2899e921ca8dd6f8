pub mod Figure
pub mod Month
pub mod Read
pub mod Shown
