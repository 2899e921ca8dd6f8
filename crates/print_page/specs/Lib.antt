pub mod PageOrLine
