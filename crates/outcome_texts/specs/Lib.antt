pub mod OutcomeText
pub mod ObservedLine
pub mod Seen
pub mod Log
pub mod Report
