pub mod AmountGrammar
pub mod Page
pub mod PageShape
pub mod PageColumns
pub mod PageEnding
pub mod Cases
