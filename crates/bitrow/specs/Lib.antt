pub mod Bits
pub mod Rows
pub mod Walks
