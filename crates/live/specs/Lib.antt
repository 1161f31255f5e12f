pub mod Trace
pub mod Advance
pub mod Driven
