pub mod Counts
pub mod Same
pub mod Tallies
pub mod OneHistogram
