pub mod Values
pub mod Open
