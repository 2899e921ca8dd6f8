pub mod StoredEnding
pub mod Stored
pub mod Moves
pub mod Form
pub mod StoredRows
