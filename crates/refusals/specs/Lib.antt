pub mod Lines
pub mod Meanings
pub mod Table
