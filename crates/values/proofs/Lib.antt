pub mod Unsourced
pub mod Lawful
pub mod Walks
pub mod Known
