pub mod AcceptByPricing
pub mod AcceptAnswers
pub mod AlteredFiles
