pub mod ExactLines
pub mod SlipEnding
pub mod Slip
