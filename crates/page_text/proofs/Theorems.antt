pub mod Page
pub mod ReadBack
pub mod PageShape
pub mod PageEnding
