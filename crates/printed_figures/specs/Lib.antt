pub mod Printed
pub mod Tolerance
