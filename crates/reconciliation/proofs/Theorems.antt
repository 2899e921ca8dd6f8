pub mod ExactPercent
pub mod Figures
pub mod Reconciliation
pub mod RisingRevenue
