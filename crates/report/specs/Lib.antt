pub mod Errors
pub mod Written
