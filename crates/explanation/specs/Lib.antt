pub mod Diy
pub mod Cycle
pub mod Overlook
pub mod Order
pub mod Explanation
