pub mod Run
pub mod Campaign
pub mod Histogram
