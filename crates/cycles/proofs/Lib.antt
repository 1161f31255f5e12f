pub mod Loops
pub mod Ranges
