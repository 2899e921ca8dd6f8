pub mod Slip
pub mod SlipRoom
pub mod FigureRoom
pub mod SlipReading
pub mod ExactLines
pub mod SlipEnding
pub mod Cases
