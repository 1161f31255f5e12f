pub mod Numbers
pub mod Packed
pub mod Chains
pub mod Step
pub mod Waiting
pub mod Situation
pub mod Row
