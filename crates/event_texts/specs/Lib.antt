pub mod Labels
pub mod Names
pub mod Events
