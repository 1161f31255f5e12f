pub mod Reading
pub mod Text
pub mod Clipped
pub mod Parsed
