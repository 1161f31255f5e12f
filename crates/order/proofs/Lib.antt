pub mod Enumerated
pub mod Visible
pub mod Waits
pub mod Once
pub mod Greedy
