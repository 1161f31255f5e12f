pub mod Inputs
pub mod Refusal
pub mod Named
