pub mod EntryCalls
pub mod ChangeIsCall
pub mod EntryCallAnswers
