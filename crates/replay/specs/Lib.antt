pub mod Steps
pub mod OrderReplay
