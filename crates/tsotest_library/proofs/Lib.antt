pub mod Outcomes
pub mod Statuses
pub mod Lists
pub mod Completions
