pub mod AlteredFiles
pub mod SlipEnding
pub mod Slip
pub mod ExactLines
pub mod SlipSize
