pub mod Page
pub mod Pages
pub mod PageEnding
