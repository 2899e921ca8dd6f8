pub mod CentsBook
pub mod BuildingBooks
pub mod Accounts
pub mod BuildingOn
pub mod Cleared
pub mod Fair
