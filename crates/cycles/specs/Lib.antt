pub mod Words
pub mod Blocks
pub mod Listing
pub mod Reading
pub mod Closing
pub mod Limits
pub mod Says
pub mod Made
