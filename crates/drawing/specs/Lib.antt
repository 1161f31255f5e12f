pub mod Edges
pub mod Bold
pub mod Gaps
pub mod Nodes
pub mod Ranks
pub mod Drawing
