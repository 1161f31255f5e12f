pub mod Faults
pub mod Headers
