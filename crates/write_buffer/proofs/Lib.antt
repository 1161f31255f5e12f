pub mod Youngest
pub mod Popped
