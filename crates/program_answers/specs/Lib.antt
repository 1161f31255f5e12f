pub mod Outcomes
pub mod LogAnswer
pub mod Circles
pub mod Part
pub mod Completion
pub mod Why
pub mod Cycles
