pub mod ExactPercent
pub mod Figures
pub mod MarkedFigures
pub mod Reconciliation
