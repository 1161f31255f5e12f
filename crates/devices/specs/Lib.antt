pub mod Bytes
pub mod Host
pub mod Progress
