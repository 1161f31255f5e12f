pub mod Bound
pub mod WorkerJobs
pub mod Levels
pub mod Cycles
pub mod SourceRow
pub mod Slots
pub mod Started
