pub mod Seen
pub mod Histogram
pub mod Runs
pub mod Text
pub mod OneHistogram
