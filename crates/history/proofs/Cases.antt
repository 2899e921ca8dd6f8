pub mod DecidedCalls
pub mod PricedCalls
pub mod Accounts
pub mod BuildingOn
pub mod Cleared
pub mod Fair
