pub mod ExactLines
