pub mod Rendered
pub mod Reduced
pub mod LongReduced
pub mod Campaign
pub mod Survey
